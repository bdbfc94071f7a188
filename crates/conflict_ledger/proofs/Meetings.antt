-- The entries that one agent has with another where they meet.
use Rattle.std.proofs.lemmas.Bool.Decides.{nat_tests}
use Rattle.std.proofs.Common.{◌≡◌, ◌≢◌, ◌⊎◌, inl, inr, ℕ, ◌+◌, ◌<◌, Some, Option, sym, ap, ◌∙◌, arith}
use Rattle.std.specs.Prelude.{min, max}
use Rattle.std.proofs.lemmas.Bool.{cases_lt}
use Rattle.std.proofs.lemmas.Option.{same_Some}
use Rattle.std.specs.Option.{unwrap_or}
use Rattle.grid_cells.specs.Cell.{Point}
use Rattle.plan_table.specs.Route.{Fleet, position_of, last_of, Leaves}
use Rattle.mapf_rules.specs.Entries.{OnePasses, IsVertex, IsParked, IsEdge, IsFollowing, IsSwapping}
use Rattle.mapf_rules.specs.Naming.{Names, time_of}
use Rattle.conflict_ledger.specs.Gathering.{IsAgents, IsMet}
use Rattle.conflict_ledger.specs.Sight.{IsWhere, AreTogether}
use Rattle.conflict_ledger.specs.declared.places.Place.TheVariants.{Beside, Ahead, Behind}
use Rattle.mapf_rules.specs.declared.entries.Conflict.{Conflict}
use Rattle.mapf_rules.specs.declared.entries.Conflict.TheVariants.{Vertex, Parked, Edge, Following, Swapping}

module _ (one other : ℕ) where
  pub one_of : (first second : ℕ) → first ≡ min one other → second ≡ max one other → (first ≡ one) ⊎ (second ≡ one)
  one_of first second least most = elim (cases_lt other one) [ inl lower ↦ inr (omega arith) | inr higher ↦ inl (omega arith) ]

  -- where the other one passes, one of the two does
  pub other_passes : (fleet : Fleet) (time first second : ℕ) → first ≡ min one other → second ≡ max one other → (time < last_of fleet other) ⊎ Leaves fleet other → OnePasses fleet time first second
  other_passes fleet time first second least most how = grind (arith, nat_tests)

  pub ordered : (p q first second : ℕ) → first ≡ min one other → second ≡ max one other → p < q → ((p ≡ one) × (q ≡ other)) ⊎ ((p ≡ other) × (q ≡ one)) → (p ≡ first) × (q ≡ second)
  ordered p q first second least most lt both = grind (arith, nat_tests)

  pub together : (fleet : Fleet) (time : ℕ) (cell : Point) (first second : ℕ) → first ≡ min one other → second ≡ max one other → other ≢ one → position_of fleet one time ≡ Some cell → position_of fleet other time ≡ Some cell → AreTogether fleet time first second cell
  together fleet time cell first second least most apart here there = grind (arith, nat_tests)

module _ (fleet : Fleet) (agent other time : ℕ) (here next : Point) (place : IsWhere fleet agent time here next) where
  pub at_now : (cell : Point) → position_of fleet agent time ≡ Some cell → cell ≡ here
  at_now cell at = same_Some cell here (sym at ∙ place.now)

  pub at_later : (cell : Point) → position_of fleet agent (time + 1) ≡ Some cell → cell ≡ next
  at_later cell at = ap (λ (o : Option Point). unwrap_or o here) (sym at) ∙ place.later

  -- an agent that doesn't stay goes to the next cell
  pub goes_on : here ≢ next → position_of fleet agent (time + 1) ≡ Some next
  goes_on moves = grind (arith, nat_tests)

  -- one that is beside it shares its move just if it moves to the same cell
  pub edge_beside : (first second : ℕ) → first ≡ min agent other → second ≡ max agent other → other ≢ agent → position_of fleet other time ≡ Some here → (here ≢ next) × (position_of fleet other (time + 1) ≡ Some next) → IsEdge fleet time first second here next
  edge_beside first second least most apart there goes = grind (arith, nat_tests)

  pub edge_goes : (first second : ℕ) → first ≡ min agent other → second ≡ max agent other → IsEdge fleet time first second here next → (here ≢ next) × (position_of fleet other (time + 1) ≡ Some next)
  edge_goes first second least most edge = grind (arith, nat_tests)

  module _ (first second : ℕ) (least : first ≡ min agent other) (most : second ≡ max agent other) (m e : Option Conflict)
      (vs : IsVertex fleet time first second here → m ≡ Some (Vertex time first second here)) (ps : IsParked fleet time first second here → m ≡ Some (Parked time first second here))
      (es : IsEdge fleet time first second here next → e ≡ Some (Edge time first second here next)) where
    pub met_beside : (entry : Conflict) → IsAgents fleet agent entry → time_of entry ≡ time → Names entry other → other ≢ agent → IsMet Beside entry agent → (m ≡ Some entry) ⊎ (e ≡ Some entry)
    met_beside entry is at two apart met = grind (arith, nat_tests)

  pub met_ahead : (f s t : Option Conflict) → (IsFollowing fleet time agent other next → f ≡ Some (Following time agent other next))
      → (IsSwapping fleet time agent other here next → s ≡ Some (Swapping time agent other here next)) → (IsSwapping fleet time other agent next here → t ≡ Some (Swapping time other agent next here))
      → (entry : Conflict) → IsAgents fleet agent entry → time_of entry ≡ time → Names entry other → other ≢ agent → IsMet Ahead entry agent → (f ≡ Some entry) ⊎ ((s ≡ Some entry) ⊎ (t ≡ Some entry))
  met_ahead f s t fs ss ts entry is at two apart met = grind (arith, nat_tests)

  -- and meets nobody ahead
  pub still_ahead : here ≡ next → (entry : Conflict) → IsAgents fleet agent entry → time_of entry ≡ time → IsMet Ahead entry agent → ⊥
  still_ahead still entry is at met = grind (arith, nat_tests)

  -- an agent that is in the cell already follows nobody into it
  pub behind_moves : (entry : Conflict) → IsAgents fleet agent entry → time_of entry ≡ time → Names entry other → other ≢ agent → IsMet Behind entry agent → position_of fleet other time ≡ Some here → ⊥
  behind_moves entry is at two apart met there = grind (arith, nat_tests)
