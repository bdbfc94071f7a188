use Rattle.std.proofs.Common.{take, Contains}
use Rattle.cost_ledger.specs.Sets.{LosesEach}
use Rattle.cost_ledger.proofs.along.unblock_all.Given as goal

abbrev pub invariant-loop-visit : goal.invariant-loop-visit
invariant-loop-visit l = LosesEach l.fn.blocked.keys l.blocked.keys (Contains (take l.visit-index l.visits))
