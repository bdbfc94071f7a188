use Rattle.std.proofs.Common.{◌≡◌, ◌≤◌, ℕ, List, All, length, length-take, take, sym, subst, rules, arith}
use Rattle.bench_reader.specs.declared.tasks.Task.{Task}
use Rattle.plan_table.specs.declared.plans.Row.{Row}
use Rattle.plan_table.specs.declared.tracks.Mode.TheVariants.{Stay}
use Rattle.scene_edits.specs.Scene.{IsScene}
use Rattle.scene_edits.specs.Tasks.{rows_from, IsTaskOn}
use Rattle.scene_edits.specs.declared.scenes.TheConstants.{MOST_AGENTS}
use Rattle.scene_edits.proofs.RowEnds.{scene_of_tasks}
use Rattle.scene_edits.proofs.scenes.Scene.with_tasks.Goals as goal

pub of-requires : goal.of-requires
of-requires c =
    let few : length (take c.args.many c.args.tasks.now) ≤ MOST_AGENTS = omega (arith, length-take {A = Task}) in
    let on : All (IsTaskOn c.args.grid.size) (take c.args.many c.args.tasks.now) = search rules in
    let rows : c.in-Ok.plans.rows ≡ rows_from 0 (take c.args.many c.args.tasks.now) = search rules in
    subst (λ (r : List (ℕ × Row)). IsScene (record { grid = c.args.grid; rows = r; mode = Stay })) (sym rows) (scene_of_tasks c.args.grid (take c.args.many c.args.tasks.now) few on)
