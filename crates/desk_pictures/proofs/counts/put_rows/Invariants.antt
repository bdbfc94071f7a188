use Rattle.std.proofs.Common.{◌≡◌}
use Rattle.desk_pictures.specs.Growth.{Grows}
use Rattle.desk_pictures.proofs.counts.put_rows.Given as goal

abbrev pub invariant-loop-down : goal.invariant-loop-down
invariant-loop-down g l = record {
  out : Grows (g.W.Sink.held l.fn.sink) (g.W.Sink.held l.sink);
  sound : g.W.Sink.broken l.sink ≡ g.W.Sink.broken l.fn.sink;
}
