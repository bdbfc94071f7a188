-- The order of aims.
use Rattle.std.proofs.Common.{◌≡◌, ◌≤◌, ◌<◌, ◌⊎◌, ℕ, List, [], ◌∷◌, Option, Some, None, Bool, true, false, IsTrue, Bor, Contains, refl, sym, ap, ◌∙◌, subst, arith}
use mathlib.Core.Logic.{◌↔◌}
use Rattle.std.specs.BTreeSet as sorted
use Rattle.std.specs.BTreeSet.{BTreeSet}
use Rattle.std.specs.Map.Iter.{TakesFirst, deref}
use Rattle.std.specs.Option.{is_some}
use Rattle.std.specs.Cmp.{IsTotalOrder}
use Rattle.std.specs.BTreeMap.Range.{IsLeBy, IsInRange}
use Rattle.std.specs.Ordering.{nat_cmp, ordering_then, is_gt}
use Rattle.std.specs.declared.cmp.Ordering.{Ordering}
use Rattle.std.specs.declared.ops.Bound.TheVariants.{Included}
use Rattle.std.proofs.lemmas.Map.Lookups.{CmpEqualImpliesEq}
use Rattle.std.proofs.lemmas.Map.Views.{btree_set_contains_iff}
use Rattle.std.proofs.lemmas.Bool.Decides.{nat_tests}
use Rattle.std.proofs.lemmas.Cmp.{nat_cmp_total, on_total, then_total}
use Rattle.std.proofs.lemmas.Grind.{common_steps}
use Rattle.std.proofs.lemmas.Option.{gets}
use Rattle.grid_cells.specs.Cell.{Point}
use Rattle.grid_cells.specs.declared.numbers.TheConstants.{MOST_AGENT}
use Rattle.live_report.specs.Aims.{aim, aim_cmp, HaveAgents, IsAimedAt, HasBetween}
use Rattle.live_report.specs.declared.aims.Aim.{Aim}

pub aim_total : IsTotalOrder aim_cmp
aim_total = then_total (then_total (on_total (λ (a : Aim). a.goal.y) nat_cmp_total) (on_total (λ (a : Aim). a.goal.x) nat_cmp_total)) (on_total (λ (a : Aim). a.agent) nat_cmp_total)

pub aim_exact : CmpEqualImpliesEq aim_cmp
aim_exact a b e = grind (arith, nat_tests, common_steps, gets)

-- ---- aims between two bounds
-- one place of a comparison
place_le : (a b : ℕ) (o : Ordering) → is_gt (ordering_then (nat_cmp a b) o) ≡ false → (a < b) ⊎ ((a ≡ b) × (is_gt o ≡ false))
place_le a b o e = grind (arith, nat_tests, common_steps, gets)

same_goal : (y v x u : ℕ) → ((y < v) ⊎ ((y ≡ v) × (x ≤ u))) → ((v < y) ⊎ ((v ≡ y) × (u ≤ x))) → (v ≡ y) × (u ≡ x)
same_goal y v x u low high = grind (arith, nat_tests, common_steps, gets)

-- what stands between two aims at a goal is an aim at it
between_goal : (goal : Point) (least most : ℕ) (a : Aim) → IsInRange aim_cmp (Included (aim goal least)) (Included (aim goal most)) a → a.goal ≡ goal
between_goal goal least most a inside = grind (arith, nat_tests, common_steps, gets)

-- aims at one goal compare by their agents
same_goal_cmp : (goal : Point) (n m : ℕ) → aim_cmp (aim goal n) (aim goal m) ≡ nat_cmp n m
same_goal_cmp goal n m = grind (arith, nat_tests, common_steps, gets)

not_greater : (n m : ℕ) → n ≤ m → is_gt (nat_cmp n m) ≡ false
not_greater n m h = grind (arith, nat_tests)

pub le_at_goal : (goal : Point) (n m : ℕ) → n ≤ m → IsLeBy aim_cmp (aim goal n) (aim goal m)
le_at_goal goal n m h = ap is_gt (same_goal_cmp goal n m) ∙ not_greater n m h

-- an aim stands between the least and the greatest at a goal exactly where an agent aims at it
pub between_all : (aims : List Aim) (goal : Point) → HaveAgents aims → HasBetween aims (aim goal 0) (aim goal MOST_AGENT) ↔ IsAimedAt aims goal
between_all aims goal agents = (
  (λ h.
      let is : h.0.goal ≡ goal = between_goal goal 0 MOST_AGENT h.0 h.2 in
      (h.0.agent, subst (λ (p : Point). Contains aims (aim p h.0.agent)) is h.1)),
  (λ h. (aim goal h.0, h.1, (le_at_goal goal 0 h.0 (omega arith), le_at_goal goal h.0 MOST_AGENT (agents (aim goal h.0) h.1)))),
)

-- a part of a set from one aim to another has a first exactly where the set has an aim there
pub found_between : (set : BTreeSet Aim) (low high : Aim) (part rest : List Aim) (first : Option (Bor Aim)) (found : Bool) → sorted.IsKeyRangeOf aim_cmp (Included low) (Included high) set part → TakesFirst deref part first rest → found ≡ is_some first → IsTrue found ↔ HasBetween set.keys low high
found_between set low high [] rest (Some a) found range takes is = absurd (cc)
found_between set low high [] rest None found range takes is = (
  (λ h. let wrong : true ≡ false = sym h ∙ is in absurd (cc)),
  (λ h.
      let none : sorted.contains aim_cmp set h.0 ≡ false = range.5 refl h.0 h.2 in
      let wrong : true ≡ false = sym ((btree_set_contains_iff aim_total aim_exact set h.0).1 h.1) ∙ none in
      absurd (cc)),
)
found_between set low high (a ∷ part) rest None found range takes is = absurd (cc)
found_between set low high (a ∷ part) rest (Some b) found range takes is =
    ((λ _. (a, (btree_set_contains_iff aim_total aim_exact set a).0 range.1.1, range.1.0)), (λ _. is))
