use Rattle.std.proofs.Common.{◌≡◌, ◌∙◌, ap, subst, arith}
use Rattle.scene_edits.specs.Scene.{SceneState, IsScene}
use Rattle.live_report.specs.Changed.{AreChangesBy}
use Rattle.desk_commits.specs.State.{DeskState, earlier}
use Rattle.desk_core.proofs.Reported.{has_changed}
use Rattle.desk_core.proofs.desks.Desk.changes_since.Goals as goal

pub returns-in-Ok-changes-clause-told : goal.returns-in-Ok-changes-clause-told
returns-in-Ok-changes-clause-told c =
    let desk : DeskState = c.args.self.now in
    let first : c.self.inside.scene ≡ desk.scene = ap (λ (d : DeskState). d.scene) c.self.view_is in
    let second : c.self-2.inside.scene ≡ desk.scene = ap (λ (d : DeskState). d.scene) (c.self-2.view_is ∙ c.in-Ok.ensures.same) in
    let is_scene : IsScene desk.scene = subst (λ (s : SceneState). IsScene s) first c.plans-plans.ensures.scene in
    let changed : AreChangesBy c.in_ok-turnover.turnover desk.scene c.in-Ok-changes.changes = subst (λ (s : SceneState). AreChangesBy c.in_ok-turnover.turnover s c.in-Ok-changes.changes) second c.in-Ok-changes.ensures.told in (
      omega (arith, c.version-now.ensures.is),
      c.version-now.ensures.is,
      has_changed c.settle_is_bound_and_gap.ensures (earlier desk c.args.version) desk c.in_ok-turnover.turnover c.in-Ok-changes.changes is_scene c.in_ok-turnover.ensures.told changed,
    )
