use Rattle.std.proofs.Common.{◌≡◌, ◌≤◌, drop}
use Rattle.path_files.specs.Moves.{moves_from, path_from}
use Rattle.path_files.proofs.moves.path_from.Given as goal

abbrev pub invariant-loop-byte : goal.invariant-loop-byte
invariant-loop-byte l = record {
  so_far : path_from l.flipped l.line l.fn.start l.bytes ≡ moves_from l.flipped l.line l.time l.at l.path.items (drop l.byte-index l.bytes);
  timed : l.time ≤ l.byte-index;
}
