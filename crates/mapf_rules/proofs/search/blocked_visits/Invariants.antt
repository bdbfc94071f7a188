use Rattle.mapf_rules.proofs.Visiting.{VisitsBelow}
use Rattle.mapf_rules.proofs.search.blocked_visits.Given as goal

abbrev pub invariant-loop-rank : goal.invariant-loop-rank
invariant-loop-rank l = VisitsBelow l.grid l.plans.rows l.rank l.visits.items
