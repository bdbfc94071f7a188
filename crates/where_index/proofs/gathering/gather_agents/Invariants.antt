use Rattle.where_index.specs.Shown.{IsBy}
use Rattle.where_index.specs.Spots.{AreRising}
use Rattle.where_index.proofs.Gathered.{Gathers}
use Rattle.where_index.proofs.gathering.gather_agents.Given as goal

abbrev pub invariant-loop-spot : goal.invariant-loop-spot
invariant-loop-spot l = record {
  rising : AreRising l.fn.spots → AreRising l.spot-iterator;
  gathers : Gathers (IsBy l.time) l.fn.found.items l.fn.spots l.spot-iterator l.found.items;
}
