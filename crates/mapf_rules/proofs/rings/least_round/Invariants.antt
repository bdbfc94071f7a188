use Rattle.std.proofs.Common.{ℕ, List, Contains}
use Rattle.plan_table.specs.Route.{Fleet}
use Rattle.mapf_rules.specs.Cycles.{IsRing}
use Rattle.mapf_rules.specs.RingWalk.{MovesTo}
use Rattle.mapf_rules.proofs.Walks.{IsOnRound}
use Rattle.mapf_rules.proofs.rings.least_round.Given as goal

abbrev pub invariant-loop-step : goal.invariant-loop-step
invariant-loop-step g l = record {
  moves : (fleet : Fleet) → g.M.Movers.tells l.movers fleet → MovesTo fleet l.time l.agent l.fn.to → MovesTo fleet l.time l.least.0 l.least.1;
  on : (fleet : Fleet) (ring : List ℕ) → g.M.Movers.tells l.movers fleet → MovesTo fleet l.time l.agent l.fn.to → IsRing fleet l.time ring → Contains ring l.agent → IsOnRound fleet l.time l.agent l.step l.marked l.least.0 l.least.1 l.ahead;
}
