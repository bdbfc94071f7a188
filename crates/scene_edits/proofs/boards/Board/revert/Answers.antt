use Rattle.std.proofs.Common.{◌≡◌, ◌≤◌, List, [], ◌∷◌, ◌++◌, sym, ap, subst, ◌∙◌, rules}
use Rattle.scene_edits.specs.Scene.{SceneState}
use Rattle.scene_edits.specs.Board.{scene_of, room_after, room_left}
use Rattle.scene_edits.specs.ChangedBy.{ChangedBy}
use Rattle.scene_edits.specs.Undone.{undone_all, AreUndoable}
use Rattle.scene_edits.specs.declared.changes.Change.{Change}
use Rattle.scene_edits.proofs.ManyBack.{are_undoable-last, room_left-push}
use Rattle.scene_edits.proofs.JoinedChanges.{by_none, by_both}
use Rattle.scene_edits.proofs.WayBack.{made_scene, all_go_back, front_left, turn_changes}
use Rattle.scene_edits.proofs.boards.Board.revert.Goals as goal

pub loop-change-init : goal.loop-change-init
loop-change-init c = record {
  room = c.requires.room;
  way = λ before changed. changed;
  told = rw c.new-turned.ensures.items (by_none (scene_of c.args.self.now) (made_scene c.requires.changed.0 (scene_of c.args.self.now) c.args.changes.items c.requires.changed.1));
}

pub turn-requires-clause-undoable : goal.turn-requires-clause-undoable
turn-requires-clause-undoable c =
    let scene : SceneState = scene_of c.loop-change.self in
    let last : c.loop-change.changes.items ≡ c.pop.new.self.items ++ c.in-Some.change ∷ [] = c.in-Some.ensures.items in
    let ready : AreUndoable scene c.loop-change.changes.items = (all_go_back c.requires.changed.0 scene c.loop-change.changes.items (c.loop-change.invariant.way c.requires.changed.0 c.requires.changed.1)).0 in
    (are_undoable-last scene c.pop.new.self.items c.in-Some.change (subst (AreUndoable scene) last ready)).0

pub undo_all-requires-clause-undoable : goal.undo_all-requires-clause-undoable
undo_all-requires-clause-undoable c =
    let before : SceneState = c.requires.changed.0 in
    let scene : SceneState = scene_of c.loop-change.self in
    let front : List Change = c.pop.new.self.items in
    let last : c.loop-change.changes.items ≡ c.pop.new.self.items ++ c.in-Some.change ∷ [] = c.in-Some.ensures.items in
    let way = subst (λ (list : List Change). ChangedBy before list scene) last (c.loop-change.invariant.way before c.requires.changed.1) in
    (all_go_back before (scene_of c.turn.new.self) front (subst (ChangedBy before front) (sym c.turn.ensures.undone) (front_left before scene front c.in-Some.change way))).0

pub returns-in-Err-clause-back : goal.returns-in-Err-clause-back
returns-in-Err-clause-back c = λ before changed.
    let scene : SceneState = scene_of c.loop-change.self in
    let front : List Change = c.pop.new.self.items in
    let last : c.loop-change.changes.items ≡ c.pop.new.self.items ++ c.in-Some.change ∷ [] = c.in-Some.ensures.items in
    let way = subst (λ (list : List Change). ChangedBy before list scene) last (c.loop-change.invariant.way before changed) in
    c.undo_all.ensures ∙ (all_go_back before (scene_of c.turn.new.self) front (subst (ChangedBy before front) (sym c.turn.ensures.undone) (front_left before scene front c.in-Some.change way))).1

pub returns-clause-back : goal.returns-clause-back
returns-clause-back c = λ before changed.
    let none : c.loop-change.changes.items ≡ [] = search rules in
    subst (λ (list : List Change). undone_all (scene_of c.loop-change.self) list ≡ before) none (all_go_back before (scene_of c.loop-change.self) c.loop-change.changes.items (c.loop-change.invariant.way before changed)).1

pub loop-change-preserved : goal.loop-change-preserved
loop-change-preserved c =
    let scene : SceneState = scene_of c.loop-change.self in
    let new : SceneState = scene_of c.turn.new.self in
    let front : List Change = c.pop.new.self.items in
    let last : c.loop-change.changes.items ≡ c.pop.new.self.items ++ c.in-Some.change ∷ [] = c.in-Some.ensures.items in
    let left : room_left c.loop-change.changes.items ≡ room_after (room_left front) c.in-Some.change = ap room_left last ∙ room_left-push front c.in-Some.change in
    let way : (before : SceneState) → ChangedBy before c.args.changes.items (scene_of c.args.self.now) → ChangedBy before (front ++ c.in-Some.change ∷ []) scene = λ before changed.
    subst (λ (list : List Change). ChangedBy before list scene) last (c.loop-change.invariant.way before changed) in
    let (turn, is, items) = c.in-Ok.ensures.told in
    let turned : ChangedBy scene turn new = subst (ChangedBy scene turn) (sym c.turn.ensures.undone) (turn_changes c.requires.changed.0 scene front c.in-Some.change (way c.requires.changed.0 c.requires.changed.1) turn is) in
    record {
      room = c.turn.ensures.room (room_left front) (subst (λ n. n ≤ c.loop-change.self.plans.room) left c.loop-change.invariant.room);
      way = λ before changed. subst (ChangedBy before front) (sym c.turn.ensures.undone) (front_left before scene front c.in-Some.change (way before changed));
      told = subst (λ (list : List Change). ChangedBy (scene_of c.args.self.now) list new) (sym items) (by_both (scene_of c.args.self.now) scene new c.loop-change.turned.items turn c.loop-change.invariant.told turned);
    }
