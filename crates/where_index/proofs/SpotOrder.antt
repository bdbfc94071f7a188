-- The order of spots.
use Rattle.std.proofs.Common.{◌≡◌, ◌≤◌, ◌<◌, ◌⊎◌, ℕ, refl, sym, ap, ◌∙◌, subst, List, ◌∷◌, Contains, Bool, true, ◌&&◌, arith, inl, inr}
use Rattle.std.proofs.lemmas.Bool.Decides.{nat_tests}
use mathlib.Core.Logic.{◌↔◌}
use Rattle.std.specs.List.{filter, AllPairs}
use Rattle.std.specs.List.Sorted.{IsStrictlySortedBy}
use Rattle.std.specs.BTreeMap.Range.{range_contains}
use Rattle.std.specs.Cmp.{IsTotalOrder}
use Rattle.std.specs.Ordering.{MatchOrdering, is_le, nat_cmp, ordering_then}
use Rattle.std.specs.declared.cmp.Ordering.{Ordering}
use Rattle.std.specs.declared.cmp.Ordering.TheVariants.{Less, Equal}
use Rattle.std.specs.declared.ops.Bound.TheVariants.{Included, Unbounded}
use Rattle.std.proofs.lemmas.List.Kept.{IsStrictlySortedBy-filter}
use Rattle.std.proofs.lemmas.Cmp.{ranked, nat_cmp_total, on_total, then_total}
use Rattle.std.proofs.lemmas.Map.Keys.{Less-from_sorted}
use Rattle.std.proofs.lemmas.Map.Lookups.{CmpEqualImpliesEq}
use Rattle.grid_cells.specs.Cell.{Point, point}
use Rattle.plan_table.proofs.Order.{Contains-cons_head, Contains-cons_cases, AllPairs-head}
use Rattle.where_index.specs.declared.moves.Move.{Move}
use Rattle.where_index.specs.declared.spot_sets.Spot.{Spot}
use Rattle.where_index.specs.Spots.{spot, AreFrom, AreRising, HasAt}
use Rattle.where_index.proofs.Filtering.{filter_keeps}

-- moves compare by agent, then the row and the column of the cell that it goes to
abbrev pub move_cmp : Move → Move → Ordering
move_cmp a b = ordering_then (nat_cmp a.agent b.agent) (ordering_then (nat_cmp a.to.y b.to.y) (nat_cmp a.to.x b.to.x))

-- spots compare by time, then agent and where it goes
abbrev pub spot_cmp : Spot → Spot → Ordering
spot_cmp a b = ordering_then (nat_cmp a.time b.time) (move_cmp a.step b.step)

move_total : IsTotalOrder move_cmp
move_total = then_total (on_total (λ (m : Move). m.agent) nat_cmp_total) (then_total (on_total (λ (m : Move). m.to.y) nat_cmp_total) (on_total (λ (m : Move). m.to.x) nat_cmp_total))

pub spot_total : IsTotalOrder spot_cmp
spot_total = then_total (on_total (λ (s : Spot). s.time) nat_cmp_total) (on_total (λ (s : Spot). s.step) move_total)

pub then_equal : (a b : Ordering) → ordering_then a b ≡ Equal → (a ≡ Equal) × (b ≡ Equal)
then_equal a b e = grind arith

pub spot_exact : CmpEqualImpliesEq spot_cmp
spot_exact a b e = grind (arith, nat_tests)

-- ---- one place of a comparison
pub from_lt : (a b : ℕ) → nat_cmp a b ≡ Less → a < b
from_lt a b e = subst (λ o. MatchOrdering o (a < b) (a ≡ b) (b < a)) e (ranked a b (nat_cmp a b) refl)

place_le : (a b : ℕ) (o : Ordering) → is_le (ordering_then (nat_cmp a b) o) ≡ true → (a < b) ⊎ ((a ≡ b) × (is_le o ≡ true))
place_le a b o e = grind (arith, nat_tests)

from_le : (a b : ℕ) (o : Ordering) → is_le (ordering_then (nat_cmp a b) o) ≡ true → a ≤ b
from_le a b o e = grind (arith, nat_tests)

pub then_end : (o : Ordering) → ordering_then o Equal ≡ o
then_end o = grind arith

-- the same number, where neither comes after the other
squeeze : (a b : ℕ) (o p : Ordering) → is_le (ordering_then (nat_cmp a b) o) ≡ true → is_le (ordering_then (nat_cmp b a) p) ≡ true → (a ≡ b) × (is_le o ≡ true) × (is_le p ≡ true)
squeeze a b o p low high = grind (arith, place_le a b o low, place_le b a p high)

-- ---- from a time on
-- the spots from an agent's place on
abbrev pub from_place : ℕ → ℕ → Spot → Bool
from_place time agent s = is_le (spot_cmp (spot time agent (point 0 0)) s)

reached : (time agent : ℕ) (s : Spot) → time ≤ s.time → agent ≤ s.step.agent → from_place time agent s ≡ true
reached time agent s lower least = grind (arith, nat_tests)

and_end : (b : Bool) → (b && true) ≡ b
and_end b = grind arith

module _ (time agent : ℕ) (spots found : List Spot) where
  -- what a search with no end finds
  pub found_from : found ≡ filter (range_contains spot_cmp (Included (spot time agent (point 0 0))) Unbounded) spots → found ≡ filter (from_place time agent) spots
  found_from is = is ∙ λ i. filter (λ s. and_end (from_place time agent s) i) spots

  module _ (is : found ≡ filter (from_place time agent) spots) where
    kept : (s : Spot) → Contains found s ↔ (Contains spots s × (from_place time agent s ≡ true))
    kept s = subst (λ (l : List Spot). Contains l s ↔ (Contains spots s × (from_place time agent s ≡ true))) (sym is) (filter_keeps (from_place time agent) spots s)

    pub there : (to : Point) → Contains spots (spot time agent to) → Contains found (spot time agent to)
    there to h = (kept (spot time agent to)).1 (h, reached time agent (spot time agent to) (omega arith) (omega arith))

    pub among : (s : Spot) → Contains found s → Contains spots s
    among s h = ((kept s).0 h).0

    pub are_from : agent ≡ 0 → AreFrom spots time found
    are_from least s = grind (arith, kept s, from_le time s.time, reached time agent s)

    module _ (sorted : IsStrictlySortedBy spot_cmp spots) where
      ascend : AllPairs (λ a b. spot_cmp a b ≡ Less) found
      ascend i j d lt within = Less-from_sorted spot_cmp found i j d (subst (IsStrictlySortedBy spot_cmp) (sym is) (IsStrictlySortedBy-filter spot_cmp (from_place time agent) spots sorted)) lt within

      pub are_rising : AreRising found
      are_rising i j d lt within = from_le _ _ _ (ap is_le (ascend i j d lt within))

      -- the first one is the agent's at the time, if any is
      pub first_there : (s : Spot) (rest : List Spot) → found ≡ s ∷ rest → HasAt spots time agent → (s.time ≡ time) × (s.step.agent ≡ agent)
      first_there s rest steps w =
          let v = spot time agent w.0 in
          let least = ((kept s).0 (subst (λ (l : List Spot). Contains l s) (sym steps) (Contains-cons_head s rest))).1 in
          elim (Contains-cons_cases s rest v (subst (λ (l : List Spot). Contains l v) steps (there w.0 w.1))) [
            | inl is ↦ (ap (λ (q : Spot). q.time) is, ap (λ (q : Spot). q.step.agent) is)
            | inr more ↦
                let less = AllPairs-head (λ a b. spot_cmp a b ≡ Less) s rest (subst (λ (l : List Spot). AllPairs (λ a b. spot_cmp a b ≡ Less) l) steps ascend) v more in
                let times = squeeze time s.time _ _ least (ap is_le less) in
                let agents = squeeze agent s.step.agent _ _ times.1 times.2 in
                (sym times.0, sym agents.0)
          ]

-- no spot of those that rise is earlier than the first one
pub first_least : (s : Spot) (rest : List Spot) → AreRising (s ∷ rest) → (v : Spot) → Contains (s ∷ rest) v → s.time ≤ v.time
first_least s rest rise v h = elim (Contains-cons_cases s rest v h) [
  | inl is ↦ subst (λ (q : Spot). s.time ≤ q.time) is (omega arith)
  | inr more ↦ AllPairs-head (λ (a b : Spot). a.time ≤ b.time) s rest rise v more
]
