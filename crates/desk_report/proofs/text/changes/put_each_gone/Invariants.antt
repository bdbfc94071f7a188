use Rattle.std.proofs.Common.{◌≡◌, take}
use Rattle.std.specs.List.{flat_map}
use Rattle.std.specs.Io.KnownBytes.{Appends}
use Rattle.desk_report.specs.ChangesText.{gone_line}
use Rattle.desk_report.proofs.text.changes.put_each_gone.Given as goal

abbrev pub invariant-loop-item : goal.invariant-loop-item
invariant-loop-item g l = record {
  out : Appends (g.W.Sink.held l.fn.sink) (g.W.Sink.held l.sink) (flat_map (λ x. gone_line (g.L.Listed.line x)) (take l.item-index l.gone));
  sound : g.W.Sink.broken l.sink ≡ g.W.Sink.broken l.fn.sink;
}
