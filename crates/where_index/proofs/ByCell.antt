-- Spots kept by cell.
use Rattle.std.proofs.Common.{◌≡◌, ◌⊎◌, inl, inr, List, [], ◌≤◌, Contains, refl, sym, ap, subst, Option, Bool, true, false, cond, arith}
use mathlib.Core.Logic.{◌↔◌}
use Rattle.std.specs.Option.{unwrap_or}
use Rattle.std.specs.Map.{lookup}
use Rattle.std.proofs.lemmas.Bool.Decides.{nat_tests}
use Rattle.grid_cells.specs.Cell.{Point}
use Rattle.grid_cells.specs.declared.numbers.TheConstants.{MOST_AGENT}
use Rattle.where_index.specs.declared.spot_sets.Spot.{Spot}
use Rattle.plan_table.specs.Sets.{Gains, Loses}
use Rattle.where_index.specs.ByCell.{ByCell, cell_eq, spots_at, AreWithin, GainsAt, LosesAt, HaveSame}

-- ---- equal cells
pub cell_exact : (a b : Point) → cell_eq a b ≡ true → a ≡ b
cell_exact a b e = grind (arith, nat_tests)

pub apart_from : (a b : Point) → cell_eq a b ≡ false → b ≡ a → ⊥
apart_from a b apart is = grind (arith, nat_tests, apart, is)

-- ---- what is kept at one cell changes
-- new has those spots at the cell, and those of old at the others
abbrev pub Puts : ByCell → ByCell → Point → Option (List Spot) → Type 0
Puts old new cell set = (q : Point) → lookup (cell_eq q) new ≡ cond (cell_eq cell q) set (lookup (cell_eq q) old)

module _ (old new : ByCell) (cell : Point) (set : Option (List Spot)) (puts : Puts old new cell set) where
  -- what holds of the spots before and after there, and of the same ones elsewhere, holds at each cell
  at_each : (P : Point → List Spot → List Spot → Type 0) → P cell (spots_at old cell) (unwrap_or set []) → ((q : Point) → (q ≡ cell → ⊥) → P q (spots_at old q) (spots_at old q))
      → (q : Point) → P q (spots_at old q) (spots_at new q)
  at_each P here there q = subst (P q (spots_at old q)) (sym (ap (λ o. unwrap_or o []) (puts q))) (go (cell_eq cell q) refl) where
    go : (v : Bool) → cell_eq cell q ≡ v → P q (spots_at old q) (unwrap_or (cond v set (lookup (cell_eq q) old)) [])
    go true e = subst (λ c. P c (spots_at old c) (unwrap_or set [])) (cell_exact cell q e) here
    go false e = there q (apart_from cell q e)

  pub gains_at : (s : Spot) → Gains (spots_at old cell) (unwrap_or set []) s → GainsAt old new cell s
  gains_at s gains =
      at_each (λ q before after. (v : Spot) → Contains after v ↔ (Contains before v ⊎ ((q ≡ cell) × (v ≡ s)))) (λ v. grind (arith, gains v))
      (λ q apart v. grind arith)

  pub loses_at : (s : Spot) → Loses (spots_at old cell) (unwrap_or set []) s → LosesAt old new cell s
  loses_at s loses =
      at_each (λ q before after. (v : Spot) → Contains after v ↔ (Contains before v × ((q ≡ cell) × (v ≡ s) → ⊥))) (λ v. grind (arith, loses v))
      (λ q apart v. grind arith)

  pub have_same : unwrap_or set [] ≡ spots_at old cell → HaveSame old new
  have_same is = at_each (λ q before after. after ≡ before) is (λ q apart. refl)

-- ---- the agents' numbers
module _ (old new : ByCell) (are : AreWithin old) where
  pub still : HaveSame old new → AreWithin new
  still same cell s h = are cell s (subst (λ l. Contains l s) (same cell) h)

  pub still_gained : (cell : Point) (s : Spot) → s.step.agent ≤ MOST_AGENT → GainsAt old new cell s → AreWithin new
  still_gained cell s few gains q v h = elim ((gains q v).0 h) [ inl o ↦ are q v o | inr is ↦ subst (λ (w : Spot). w.step.agent ≤ MOST_AGENT) (sym is.1) few ]

  pub still_lost : (cell : Point) (s : Spot) → LosesAt old new cell s → AreWithin new
  still_lost cell s loses q v h = are q v ((loses q v).0 h).0

-- a set taken out, of which nothing was left
pub lost_again : (old mid new : ByCell) (cell : Point) (s : Spot) → LosesAt old mid cell s → HaveSame mid new → LosesAt old new cell s
lost_again old mid new cell s loses same q v = subst (λ l. Contains l v ↔ (Contains (spots_at old q) v × ((q ≡ cell) × (v ≡ s) → ⊥))) (sym (same q)) (loses q v)
