use Rattle.std.proofs.Common.{◌≡◌, take}
use Rattle.std.specs.List.{flat_map}
use Rattle.std.specs.Io.KnownBytes.{Appends}
use Rattle.desk_pictures.specs.Marks.{cross_text}
use Rattle.desk_pictures.proofs.crosses.put_each_cross.Given as goal

abbrev pub invariant-loop-visit : goal.invariant-loop-visit
invariant-loop-visit g l = record {
  out : Appends (g.W.Sink.held l.fn.sink) (g.W.Sink.held l.sink) (flat_map (cross_text l.frame.at) (take l.visit-index l.visits));
  sound : g.W.Sink.broken l.sink ≡ g.W.Sink.broken l.fn.sink;
}
