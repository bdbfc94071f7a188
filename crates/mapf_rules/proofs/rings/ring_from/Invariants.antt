use Rattle.std.proofs.Common.{◌≡◌, ◌+◌, ◌-◌, ◌<◌, ◌↔◌, ℕ, length, Contains}
use Rattle.std.specs.Prelude.{slice_index}
use Rattle.grid_cells.specs.declared.numbers.TheConstants.{MOST_AGENT}
use Rattle.plan_table.specs.Route.{Fleet}
use Rattle.mapf_rules.specs.RingWalk.{MovesTo, IsChain, IsForced}
use Rattle.mapf_rules.proofs.rings.ring_from.Given as goal

abbrev pub invariant-loop : goal.invariant-loop
invariant-loop g l = record {
  ahead : (fleet : Fleet) → g.M.Movers.tells l.movers fleet → MovesTo fleet l.time l.first l.fn.to → MovesTo fleet l.time (slice_index l.chain.items (length l.chain.items - 1)) l.ahead;
  chain : (fleet : Fleet) → g.M.Movers.tells l.movers fleet → MovesTo fleet l.time l.first l.fn.to → IsChain fleet l.time l.first l.chain.items;
  forced : (fleet : Fleet) → g.M.Movers.tells l.movers fleet → MovesTo fleet l.time l.first l.fn.to → IsForced fleet l.time l.first l.chain.items;
  seen : (agent : ℕ) → Contains l.seen.keys agent ↔ Contains l.chain.items agent;
  numbers : (agent : ℕ) → Contains l.chain.items agent → agent < MOST_AGENT + 1;
  long : length l.chain.items ≡ l.counter + 1;
  starts : slice_index l.chain.items 0 ≡ l.first;
}
