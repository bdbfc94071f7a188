use Rattle.std.proofs.Common.{◌≡◌, ◌≤◌, length, take, vec_len, vec_capacity}
use Rattle.scene_edits.specs.Board.{scene_of}
use Rattle.scene_edits.proofs.EditsInOrder.{Underway}
use Rattle.scene_edits.proofs.boards.Board.apply_all.Given as goal

abbrev pub invariant-loop-index : goal.invariant-loop-index
invariant-loop-index l = record {
  underway : Underway (scene_of l.fn.self) (take l.index l.edits) l.done.items (scene_of l.self) l.self.plans.room;
  count : vec_len l.done ≡ l.index;
  reserved : length l.edits ≤ vec_capacity l.done;
}
