use Rattle.std.proofs.Common.{take}
use Rattle.mapf_rules.specs.Costs.{AreCosts}
use Rattle.mapf_rules.proofs.totals.costs.Given as goal

abbrev pub invariant-loop-rank : goal.invariant-loop-rank
invariant-loop-rank l = AreCosts (take l.rank l.plans.rows) l.costs.items
