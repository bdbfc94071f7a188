use Rattle.std.proofs.Common.{◌≡◌, []}
use Rattle.std.specs.Io.KnownBytes.{Appends}
use Rattle.desk_report.proofs.bytes.spout.SpoutSink.put.Given as goal

abbrev pub invariant-loop : goal.invariant-loop
invariant-loop g l = record {
  kept : Appends (g.W.Write.contents l.fn.self.inner) (g.W.Write.contents l.self.inner) [];
  sound : l.self.failed ≡ l.fn.self.failed;
}
