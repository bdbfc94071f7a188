use Rattle.std.proofs.Common.{◌≡◌, ◌≤◌, take}
use Rattle.scene_edits.specs.Board.{room_left}
use Rattle.scene_edits.proofs.spare.room_for.Given as goal

abbrev pub invariant-loop-change : goal.invariant-loop-change
invariant-loop-change l = record {
  is : l.left ≡ room_left (take l.change-index l.changes);
  few : l.left ≤ l.change-index;
}
