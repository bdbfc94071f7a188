use Rattle.std.proofs.Common.{◌≡◌, []}
use Rattle.std.specs.Io.KnownBytes.{Consumes}
use Rattle.desk_report.proofs.bytes.tap.TapSource.next_byte.Given as goal

abbrev pub invariant-loop : goal.invariant-loop
invariant-loop g l = record {
  kept : Consumes (g.R.Read.remaining l.fn.self.inner) (g.R.Read.remaining l.self.inner) [];
  sound : l.self.failed ≡ l.fn.self.failed;
}
