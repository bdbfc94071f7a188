use Rattle.std.proofs.Common.{◌≡◌}
use Rattle.desk_pictures.specs.Growth.{Grows}
use Rattle.desk_pictures.proofs.pieces.put_filled.Given as goal

abbrev pub invariant-loop-piece : goal.invariant-loop-piece
invariant-loop-piece g l = record {
  out : Grows (g.W.Sink.held l.fn.sink) (g.W.Sink.held l.sink);
  sound : g.W.Sink.broken l.sink ≡ g.W.Sink.broken l.fn.sink;
}
