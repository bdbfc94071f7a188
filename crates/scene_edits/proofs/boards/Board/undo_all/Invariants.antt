use Rattle.std.proofs.Common.{◌≡◌, ◌≤◌, length}
use Rattle.scene_edits.specs.Board.{scene_of, room_left}
use Rattle.scene_edits.specs.Undone.{undone_all, AreUndoable}
use Rattle.scene_edits.proofs.boards.Board.undo_all.Given as goal

abbrev pub invariant-loop-change : goal.invariant-loop-change
invariant-loop-change l = record {
  undoable : AreUndoable (scene_of l.self) l.changes.items;
  room : room_left l.changes.items ≤ l.self.plans.room;
  same : undone_all (scene_of l.self) l.changes.items ≡ undone_all (scene_of l.fn.self) l.fn.changes.items;
}

abbrev pub decreases-loop-change : goal.decreases-loop-change
decreases-loop-change l = length l.changes.items
