use Rattle.std.proofs.Common.{◌≡◌, sym, ap, subst, ◌∙◌}
use Rattle.scene_edits.specs.Scene.{SceneState, IsScene}
use Rattle.scene_edits.specs.Board.{scene_of}
use Rattle.scene_edits.specs.ChangedBy.{ChangedBy}
use Rattle.scene_edits.specs.Undone.{undone_all, AreUndoable}
use Rattle.scene_edits.proofs.WayBack.{applied_by, all_go_back}
use Rattle.scene_edits.proofs.scenes.Scene.apply_reversibly.Goals as goal

pub undo_all-requires-clause-undoable : goal.undo_all-requires-clause-undoable
undo_all-requires-clause-undoable c =
    let old : SceneState = scene_of c.self.inside.board in
    let new : SceneState = scene_of c.apply_all.new.self in
    let changed : ChangedBy old c.in-Ok.changes new = applied_by old new c.args.edits.now c.in-Ok.changes c.self.invariant c.in-Ok.ensures.applied in
    subst (AreUndoable new) (sym c.into_items.ensures) (all_go_back old new c.in-Ok.changes changed).0

pub invariant_of-self-in-Err-spare_for : goal.invariant_of-self-in-Err-spare_for
invariant_of-self-in-Err-spare_for c =
    let old : SceneState = scene_of c.self.inside.board in
    let new : SceneState = scene_of c.apply_all.new.self in
    let changed : ChangedBy old c.in-Ok.changes new = applied_by old new c.args.edits.now c.in-Ok.changes c.self.invariant c.in-Ok.ensures.applied in
    let same : scene_of c.undo_all.new.self ≡ old = c.undo_all.ensures ∙ ap (undone_all new) c.into_items.ensures ∙ (all_go_back old new c.in-Ok.changes changed).1 in
    subst IsScene (sym same) c.self.invariant

pub returns-in-Err-spare_for : goal.returns-in-Err-spare_for
returns-in-Err-spare_for c =
    let old : SceneState = scene_of c.self.inside.board in
    let new : SceneState = scene_of c.apply_all.new.self in
    let changed : ChangedBy old c.in-Ok.changes new = applied_by old new c.args.edits.now c.in-Ok.changes c.self.invariant c.in-Ok.ensures.applied in
    c.undo_all.ensures ∙ ap (undone_all new) c.into_items.ensures ∙ (all_go_back old new c.in-Ok.changes changed).1 ∙ c.self.view_is
