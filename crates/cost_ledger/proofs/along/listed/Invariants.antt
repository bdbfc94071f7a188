use Rattle.std.proofs.Common.{◌≡◌, ◌++◌}
use Rattle.cost_ledger.proofs.along.listed.Given as goal

abbrev pub invariant-loop-visit : goal.invariant-loop-visit
invariant-loop-visit l = l.list.items ++ l.visit-iterator ≡ l.blocked.keys
