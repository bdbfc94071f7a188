use Rattle.std.proofs.Common.{◌≡◌, take}
use Rattle.std.specs.Io.KnownBytes.{Appends}
use Rattle.desk_pages.specs.Pages.{escaped}
use Rattle.desk_pages.proofs.titles.put_escaped.Given as goal

abbrev pub invariant-loop-byte : goal.invariant-loop-byte
invariant-loop-byte g l = record {
  out : Appends (g.W.Sink.held l.fn.sink) (g.W.Sink.held l.sink) (escaped (take l.byte-index l.text));
  sound : g.W.Sink.broken l.sink ≡ g.W.Sink.broken l.fn.sink;
}
