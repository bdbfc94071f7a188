use Rattle.std.proofs.Common.{◌≤◌, length}
use Rattle.scene_edits.specs.Scene.{SceneState}
use Rattle.scene_edits.specs.Board.{scene_of, room_left}
use Rattle.scene_edits.specs.ChangedBy.{ChangedBy}
use Rattle.scene_edits.proofs.boards.Board.revert.Given as goal

abbrev pub invariant-loop-change : goal.invariant-loop-change
invariant-loop-change l = record {
  room : room_left l.changes.items ≤ l.self.plans.room;
  way : (before : SceneState) → ChangedBy before l.fn.changes.items (scene_of l.fn.self) → ChangedBy before l.changes.items (scene_of l.self);
  told : ChangedBy (scene_of l.fn.self) l.turned.items (scene_of l.self);
}

abbrev pub decreases-loop-change : goal.decreases-loop-change
decreases-loop-change l = length l.changes.items
