use Rattle.std.proofs.Common.{◌≡◌}
use Rattle.desk_pictures.specs.Growth.{Grows}
use Rattle.desk_pictures.proofs.signs.put_signs.Given as goal

abbrev pub invariant-loop-name : goal.invariant-loop-name
invariant-loop-name g l = record {
  out : Grows (g.W.Sink.held l.fn.sink) (g.W.Sink.held l.sink);
  sound : g.W.Sink.broken l.sink ≡ g.W.Sink.broken l.fn.sink;
}
