use Rattle.std.proofs.Common.{◌≡◌, ◌∷◌, [], ◌++◌, List, Some, length, refl, ap, ◌∙◌, rules, arith}
use Rattle.std.specs.List.{slice_get}
use Rattle.std.proofs.lemmas.Option.{slice_get_read}
use Rattle.grid_cells.specs.Cell.{Point}
use Rattle.scene_edits.proofs.RowEnds.{tasks-more, tasks-below}
use Rattle.scene_edits.proofs.tasks.rows_of.Goals as goal

pub append_row-requires : goal.append_row-requires
append_row-requires c =
    let number : c.in-Some.agent ≡ c.loop-index.index = search rules in
    record { above = tasks-below c.args.tasks.now c.loop-index.index c.loop-index.plans.rows c.in-Some.agent (omega arith) number c.loop-index.invariant }

pub loop-index-preserved : goal.loop-index-preserved
loop-index-preserved c =
    let number : c.in-Some.agent ≡ c.loop-index.index = search rules in
    let there : slice_get c.args.tasks.now c.loop-index.index ≡ Some c.index-tasks-index.result = slice_get_read c.args.tasks.now (length c.args.tasks.now) c.loop-index.index c.index-tasks-index.result refl (omega arith) c.index-tasks-index.is in
    let plan : c.in_ok-resting_at.field-0 ≡ c.index-tasks-index.result.start ∷ [] = search rules in
    let made : c.append_row.new.plans.rows ≡ c.loop-index.plans.rows ++ (c.in-Some.agent, record { goal = c.index-tasks-index.result.goal; plan = c.in_ok-resting_at.field-0 }) ∷ [] = search rules in
    tasks-more c.args.tasks.now c.loop-index.index c.index-tasks-index.result c.loop-index.plans.rows c.append_row.new.plans.rows c.in-Some.agent there number c.loop-index.invariant
    (made ∙ ap (λ (p : List Point). c.loop-index.plans.rows ++ (c.in-Some.agent, record { goal = c.index-tasks-index.result.goal; plan = p }) ∷ []) plan)
