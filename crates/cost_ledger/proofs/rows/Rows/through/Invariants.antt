use Rattle.std.proofs.Common.{map}
use Rattle.std.specs.Map.Iter.{deref_pair}
use Rattle.cost_ledger.proofs.Through.{AreOfEntries}
use Rattle.cost_ledger.proofs.rows.Rows.through.Given as goal

abbrev pub invariant-loop-agent : goal.invariant-loop-agent
invariant-loop-agent l = AreOfEntries (map deref_pair l.yielded) l.cell l.found.items
