use Rattle.cost_ledger.specs.Sets.{LosesEach}
use Rattle.cost_ledger.specs.Through.{IsThrough}
use Rattle.cost_ledger.proofs.along.unblock.Given as goal

abbrev pub invariant-loop-time : goal.invariant-loop-time
invariant-loop-time l = LosesEach l.fn.blocked.keys l.blocked.keys (IsThrough l.agent l.plan l.fn.from l.time)
