use Rattle.mapf_rules.specs.VisitSearch.{AddsVisits}
use Rattle.mapf_rules.proofs.search.add_visits.Given as goal

abbrev pub invariant-loop-time : goal.invariant-loop-time
invariant-loop-time l = AddsVisits l.grid l.initial.visits.items l.visits.items l.agent l.plan 0 l.time
