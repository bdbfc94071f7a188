use Rattle.std.proofs.Common.{length, ap, arith}
use Rattle.change_history.proofs.Parts.{length-parts}
use Rattle.change_history.proofs.logs.Log.versions.Goals as goal

pub returns : goal.returns
returns g c = omega (arith, c.len.ensures, c.self.inside.counts.ok, length-parts c.self.inside.counts.items c.self.inside.records.items, ap length c.self.view_is)
