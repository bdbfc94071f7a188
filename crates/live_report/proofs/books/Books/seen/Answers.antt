use Rattle.std.proofs.Common.{◌≡◌, ℕ, List, sym, ap, subst, ◌∙◌}
use Rattle.std.specs.Prelude.{All}
use Rattle.goal_fields.specs.Marks.{IsWhole}
use Rattle.goal_fields.specs.Target.{Covers, IsSound}
use Rattle.plan_table.specs.Plans.{row_of}
use Rattle.plan_table.specs.declared.plans.Row.{Row}
use Rattle.scene_edits.specs.Scene.{SceneState}
use Rattle.live_report.specs.Books.{AreOf}
use Rattle.live_report.specs.Lines.{WhereLinesStand}
use Rattle.live_report.specs.Looks.{AreCurrent, IsLook}
use Rattle.live_report.proofs.Behind.{same_size, flips_cover, formers_left}
use Rattle.live_report.proofs.Covering.{covered}
use Rattle.live_report.proofs.books.Books.seen.Goals as goal

pub returns-in-Ok-look_at-clause-look : goal.returns-in-Ok-look_at-clause-look
returns-in-Ok-look_at-clause-look c = λ before changed are.
    let was = rw (← c.self.view_is) at are in
    let now : AreCurrent before.grid (row_of before.rows) c.in-Some.lines c.costs.result.now = record {
      lines = rw c.in-Some.is at was.lines;
      rows = rw c.costs.ensures was.prices.rows;
      costs = rw c.costs.ensures was.prices.costs;
      paths = λ agent row live. let on = changed.is_scene.on_map agent row live in record { path_is = on.path; held = on.cells };
    } in
    rw c.deref-3.ensures.value at (c.in-Ok-look_at.ensures before.grid (row_of before.rows) now)

pub returns-in-Ok-look_at-clause-cover : goal.returns-in-Ok-look_at-clause-cover
returns-in-Ok-look_at-clause-cover c = λ before changed are.
    let was = rw (← c.self.view_is) at are in
    let scene = c.args.scene.now in
    let flips = c.in-Ok.ensures.flips before changed.edits changed.is_scene changed.allowed changed.changed in
    let covers : Covers c.in-Ok.cells.items before.grid scene.grid = flips_cover before scene c.args.changes.now changed c.in-Ok.cells.items flips in
    let rows = ap (λ (s : SceneState). s.rows) (sym changed.made) ∙ sym c.plans.ensures.rows in
    let formers = c.in-Ok-formers.ensures.rows before changed.edits changed.is_scene changed.allowed changed.changed rows in
    let left = formers_left before scene c.args.changes.now changed c.plans.result.now.rows c.in-Ok-formers.formers.items c.plans.ensures.rows formers in
    let sound : All IsSound c.self.inside.prices.fields = rw c.fields.ensures at c.count-goals.ensures.sound in
    let whole : IsWhole scene.grid = rw c.grid.ensures.grid at c.size-size.ensures.whole in
    covered before.grid scene.grid (row_of before.rows) (row_of scene.rows) c.self.inside.prices c.in-Ok.cells.items was.prices sound whole (same_size before scene c.args.changes.now changed) covers
    c.in-Ok-formers.formers.items c.in-Some.lines c.in-Ok-agents_seen.agents.items left (rw c.in-Some.is at was.lines)
    (rw c.deref.ensures.value at c.in-Ok-agents_seen.ensures.formers) (rw c.deref-2.ensures.value at c.in-Ok-agents_seen.ensures.lines)
