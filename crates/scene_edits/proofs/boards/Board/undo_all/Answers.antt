use Rattle.std.proofs.Common.{◌≡◌, ◌≤◌, List, [], ◌∷◌, ◌++◌, sym, ap, subst, ◌∙◌}
use Rattle.scene_edits.specs.Scene.{SceneState}
use Rattle.scene_edits.specs.Board.{scene_of, room_after, room_left}
use Rattle.scene_edits.specs.Undone.{undone_all, AreUndoable}
use Rattle.scene_edits.specs.declared.changes.Change.{Change}
use Rattle.scene_edits.proofs.ManyBack.{undone_all-push, are_undoable-last, room_left-push}
use Rattle.scene_edits.proofs.boards.Board.undo_all.Goals as goal

pub undo-requires-clause-undoable : goal.undo-requires-clause-undoable
undo-requires-clause-undoable c =
    let last : c.loop-change.changes.items ≡ c.pop.new.self.items ++ c.in-Some.change ∷ [] = c.in-Some.ensures.items in
    (are_undoable-last (scene_of c.loop-change.self) c.pop.new.self.items c.in-Some.change (subst (AreUndoable (scene_of c.loop-change.self)) last c.loop-change.invariant.undoable)).0

pub loop-change-preserved : goal.loop-change-preserved
loop-change-preserved c =
    let scene : SceneState = scene_of c.loop-change.self in
    let front : List Change = c.pop.new.self.items in
    let last : c.loop-change.changes.items ≡ c.pop.new.self.items ++ c.in-Some.change ∷ [] = c.in-Some.ensures.items in
    let earlier = (are_undoable-last scene front c.in-Some.change (subst (AreUndoable scene) last c.loop-change.invariant.undoable)).1 in
    let left : room_left c.loop-change.changes.items ≡ room_after (room_left front) c.in-Some.change = ap room_left last ∙ room_left-push front c.in-Some.change in
    record {
      undoable = subst (λ s. AreUndoable s front) (sym c.undo.ensures.undone) earlier;
      room = c.undo.ensures.room (room_left front) (subst (λ n. n ≤ c.loop-change.self.plans.room) left c.loop-change.invariant.room);
      same = ap (λ s. undone_all s front) c.undo.ensures.undone ∙ sym (undone_all-push scene front c.in-Some.change) ∙ ap (undone_all scene) (sym last) ∙ c.loop-change.invariant.same;
    }
