use Rattle.std.proofs.Common.{◌⊎◌, Contains}
use Rattle.plan_table.specs.Route.{Fleet}
use Rattle.where_index.specs.Spots.{AreRising}
use Rattle.where_index.specs.declared.spot_sets.Spot.{Spot}
use Rattle.conflict_ledger.specs.Sight.{Sees}
use Rattle.conflict_ledger.specs.Gathering.{Gathers, IsStop, IsAbout, AreShowing, HasSeen}
use Rattle.conflict_ledger.proofs.gather.offer_spots.Given as goal

abbrev pub invariant-loop-spot : goal.invariant-loop-spot
invariant-loop-spot l = record {
  left : (s : Spot) → Contains l.spot-iterator s → Contains l.fn.spots s;
  rising : AreRising l.fn.spots → AreRising l.spot-iterator;
  gathers : (fleet : Fleet) → Sees l.sight fleet → IsStop fleet l.sight.agent l.stop → AreShowing fleet l.sight.agent l.stop.here l.lasting l.fn.spots → Gathers fleet l.sight.agent (IsAbout l.stop) l.initial.entries.items l.entries.items;
  has : (fleet : Fleet) → Sees l.sight fleet → IsStop fleet l.sight.agent l.stop → AreShowing fleet l.sight.agent l.stop.here l.lasting l.fn.spots → (s : Spot) → Contains l.fn.spots s → Contains l.spot-iterator s ⊎ HasSeen fleet l.sight.agent l.stop l.lasting l.entries.items s;
}
