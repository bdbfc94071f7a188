use Rattle.std.proofs.Common.{◌≡◌}
use Rattle.desk_pictures.specs.Growth.{Grows}
use Rattle.desk_pictures.proofs.rulers.put_ruler.Given as goal

abbrev pub invariant-loop-index : goal.invariant-loop-index
invariant-loop-index g l = record {
  out : Grows (g.W.Sink.held l.fn.sink) (g.W.Sink.held l.sink);
  sound : g.W.Sink.broken l.sink ≡ g.W.Sink.broken l.fn.sink;
}
