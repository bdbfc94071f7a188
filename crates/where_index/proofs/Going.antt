-- Who moves which way in a step.
use Rattle.std.proofs.Common.{◌≡◌, ◌≢◌, ℕ, ◌+◌, ◌<◌, Bool, true, Option, Some, None, slice_index, refl, ap, ◌∙◌, arith}
use mathlib.Core.Bool.{false≢true}
use mathlib.Core.Logic.{◌↔◌}
use Rattle.std.proofs.lemmas.Bool.Decides.{nat_tests}
use Rattle.grid_cells.specs.Cell.{Point}
use Rattle.grid_cells.specs.declared.numbers.TheConstants.{MOST_AGENT}
use Rattle.plan_table.specs.Route.{Fleet}
use Rattle.where_index.specs.declared.trails.Hop.{Hop}
use Rattle.where_index.specs.declared.ways.Way.{Way}
use Rattle.where_index.specs.declared.ways.Way.TheVariants.{Up, Left, Right, Down}
use Rattle.where_index.specs.declared.flows.Flows.{Flows}
use Rattle.where_index.specs.Spots.{spot}
use Rattle.where_index.specs.ByCell.{ByCell, AreWithin}
use Rattle.where_index.specs.Records.{hop, leg_at}
use Rattle.where_index.specs.Changes.{HasSpots}
use Rattle.where_index.specs.Flows.{leads, goes, flow, HasFlows}
use Rattle.where_index.specs.Index.{all_of}
use Rattle.where_index.specs.Asked.{Goes}
use Rattle.where_index.proofs.Counts.{many-some, many-has}
use Rattle.where_index.proofs.Moving.{hop_of, of_hop, hop_leg, leg_hop}

some_hop : (way : Way) (o : Option Hop) → goes way o ≡ true → (hop : Hop) × (o ≡ Some hop) × (leads way hop.from hop.to ≡ true)
some_hop way None e = absurd (false≢true e)
some_hop way (Some hop) e = (hop, refl, e)

-- a way leads to another cell
turned : (way : Way) (a b : Point) → leads way a b ≡ true → a ≢ b
turned Up a b e same = let y = ap (λ (p : Point). p.y) same in grind (arith, nat_tests)
turned Left a b e same = let x = ap (λ (p : Point). p.x) same in grind (arith, nat_tests)
turned Right a b e same = let x = ap (λ (p : Point). p.x) same in grind (arith, nat_tests)
turned Down a b e same = let y = ap (λ (p : Point). p.y) same in grind (arith, nat_tests)

pub goes_exact : (flows : Flows) (stands : ByCell) (fleet : Fleet) (time : ℕ) (way : Way) → HasFlows flows (all_of leg_at fleet) → HasSpots stands (all_of leg_at fleet) → AreWithin stands → (0 < slice_index (flow flows way) time) ↔ Goes fleet time way
goes_exact flows stands fleet time way counted has low = (
  λ h.
      let one = many-some passes (MOST_AGENT + 1) (omega (arith, counted way time, h)) in
      let leg = some_hop way (all_of leg_at fleet one.0 time) one.1 in
      let parts = hop_of (fleet one.0) time leg.0 (leg_hop (fleet one.0) time leg.0.from leg.0.to (turned way leg.0.from leg.0.to leg.2) leg.1) in
      record { agent = one.0; from = leg.0.from; to = leg.0.to; starts = parts.0; arrives = parts.1; turns = leg.2 },
  λ g.
      let is : all_of leg_at fleet g.agent time ≡ Some (hop g.from g.to) = hop_leg (fleet g.agent) time (hop g.from g.to) (of_hop (fleet g.agent) time g.from g.to g.starts g.arrives (turned way g.from g.to g.turns)) in
      let few = low g.from (spot time g.agent g.to) ((has g.from (spot time g.agent g.to)).1 is) in
      let some = many-has passes (MOST_AGENT + 1) g.agent (omega (arith, few)) (ap (λ o. goes way o) is ∙ g.turns) in
      omega (arith, counted way time, some),
) where
  passes : ℕ → Bool
  passes a = goes way (all_of leg_at fleet a time)
