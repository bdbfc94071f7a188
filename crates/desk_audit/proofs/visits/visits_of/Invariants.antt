use Rattle.plan_table.specs.Order.{ListsAll}
use Rattle.mapf_rules.specs.Visits.{visit_key}
use Rattle.desk_audit.specs.Parts.{IsVisitOf}
use Rattle.desk_audit.proofs.visits.visits_of.Given as goal

abbrev pub invariant-loop-rank : goal.invariant-loop-rank
invariant-loop-rank l = ListsAll visit_key (IsVisitOf l.grid l.plans.rows l.from l.rank) l.visits.items
