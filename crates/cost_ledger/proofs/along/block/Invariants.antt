use Rattle.cost_ledger.specs.Sets.{GainsEach}
use Rattle.mapf_rules.specs.VisitSearch.{IsVisitIn}
use Rattle.cost_ledger.proofs.along.block.Given as goal

abbrev pub invariant-loop-time : goal.invariant-loop-time
invariant-loop-time l = GainsEach l.fn.blocked.keys l.blocked.keys (IsVisitIn l.grid l.agent l.plan l.fn.from l.time)
