use Rattle.std.proofs.Common.{sym, ap, ◌∙◌}
use Rattle.std.proofs.lemmas.Result.{IfOk-weaker}
use Rattle.goal_fields.specs.Target.{Covers}
use Rattle.plan_table.specs.Plans.{row_of}
use Rattle.scene_edits.specs.Scene.{SceneState}
use Rattle.live_report.proofs.Behind.{in_mode, same_size, flips_cover, formers_left}
use Rattle.live_report.proofs.books.Books.follow_noting.Goals as goal

pub flip-requires : goal.flip-requires
flip-requires c =
    let before = c.requires.before in
    let changed = c.requires.changed in
    let flips = c.in-Ok.ensures.flips before changed.edits changed.is_scene changed.allowed changed.changed in
    (before.grid, row_of before.rows, in_mode before c.args.scene.now c.args.changes.now changed c.args.self c.requires.are, same_size before c.args.scene.now c.args.changes.now changed, rw c.deref.ensures.value (flips_cover before c.args.scene.now c.args.changes.now changed c.in-Ok.cells.items flips))

pub catch_up-requires : goal.catch_up-requires
catch_up-requires c =
    let before = c.requires.before in
    let changed = c.requires.changed in
    let scene = c.args.scene.now in
    let flips = c.in-Ok.ensures.flips before changed.edits changed.is_scene changed.allowed changed.changed in
    let covers : Covers c.deref.result.now before.grid scene.grid = rw c.deref.ensures.value (flips_cover before scene c.args.changes.now changed c.in-Ok.cells.items flips) in
    let keep = c.in_ok-books.ensures.kept before.grid (row_of before.rows) (in_mode before scene c.args.changes.now changed c.args.self c.requires.are) (same_size before scene c.args.changes.now changed) covers in
    let rows = ap (λ (s : SceneState). s.rows) (sym changed.made) ∙ sym c.plans.ensures.rows in
    let are = c.in-Ok-formers.ensures.rows before changed.edits changed.is_scene changed.allowed changed.changed rows in
    (row_of before.rows, keep, rw c.deref-2.ensures.value (formers_left before scene c.args.changes.now changed c.plans.result.now.rows c.in-Ok-formers.formers.items c.plans.ensures.rows are))

pub returns-clause-touched : goal.returns-clause-touched
returns-clause-touched c = IfOk-weaker c.catch_up.result _ _ (λ books touched before changed are.
    let rows = ap (λ (s : SceneState). s.rows) (sym changed.made) ∙ sym c.plans.ensures.rows in
    let named = c.in-Ok-formers.ensures.rows before changed.edits changed.is_scene changed.allowed changed.changed rows in
    record {
      formers = c.in-Ok-formers.formers.items;
      are = rw c.plans.ensures.rows at named;
      touched = rw (c.in_ok-books.ensures.fleet, c.deref-2.ensures.value) at touched;
    }) c.catch_up.ensures.touched
