use Rattle.std.proofs.Common.{◌≤◌, Contains}
use Rattle.where_index.specs.declared.moves.Move.{Move}
use Rattle.where_index.specs.declared.spot_sets.Spot.{Spot}
use Rattle.where_index.specs.Spots.{spot, IsMover, AreRising}
use Rattle.where_index.specs.ByCell.{spots_at}
use Rattle.where_index.proofs.spots.Spots.mover.Given as goal

abbrev pub invariant-loop-spot : goal.invariant-loop-spot
invariant-loop-spot l = record {
  only : (s : Spot) → Contains l.spot-iterator s → Contains (spots_at l.self l.fn.cell) s × (l.fn.time ≤ s.time);
  rising : AreRising l.spot-iterator;
  left : (step : Move) → IsMover (spots_at l.self l.fn.cell) l.fn.cell l.fn.time step → Contains l.spot-iterator (spot l.fn.time step.agent step.to);
}
