use Rattle.std.proofs.Common.{◌≡◌}
use Rattle.desk_pictures.specs.Growth.{Grows}
use Rattle.desk_pictures.proofs.styles.put_lengths.Given as goal

abbrev pub invariant-loop-text : goal.invariant-loop-text
invariant-loop-text g l = record {
  out : Grows (g.W.Sink.held l.fn.sink) (g.W.Sink.held l.sink);
  sound : g.W.Sink.broken l.sink ≡ g.W.Sink.broken l.fn.sink;
}
