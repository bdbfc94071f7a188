-- The visits of rows' paths to a cell, row by row.
use Rattle.std.proofs.Common.{◌≡◌, inl, inr, ℕ, ◌+◌, List, [], ◌∷◌, ◌++◌, Some, Contains, refl, sym, ap, ◌∙◌, arith}
use mathlib.Core.Logic.{◌↔◌}
use Rattle.std.specs.BTreeMap.{BTreeMap, IsOrdered, get}
use Rattle.std.specs.Ordering.{nat_cmp}
use Rattle.std.proofs.lemmas.Cmp.{nat_cmp_total}
use Rattle.std.proofs.lemmas.Map.Lookups.{exact_unsigned}
use Rattle.std.proofs.lemmas.Map.Views.{btree_map_get_iff}
use Rattle.grid_cells.specs.Cell.{Point}
use Rattle.plan_table.specs.Path.{last_index}
use Rattle.plan_table.specs.declared.plans.Row.{Row}
use Rattle.mapf_rules.specs.declared.visits.Visit.{Visit}
use Rattle.plan_table.proofs.Sets.{push_iff}
use Rattle.cost_ledger.specs.Sets.{GainsEach}
use Rattle.cost_ledger.specs.Through.{IsThrough, AreThrough}
use Rattle.cost_ledger.proofs.RowSums.{row_of_lookup}

-- the visit is one to the cell on the agent's path
abbrev pub IsTo : Point → ℕ → Row → Visit → Type 0
IsTo cell agent row v = (v.cell ≡ cell) × IsThrough agent row.plan 0 (last_index row.plan + 1) v

-- the visits are those of the entries to the cell
abbrev pub AreOfEntries : List (ℕ × Row) → Point → List Visit → Type 0
AreOfEntries entries cell visits = (v : Visit) → Contains visits v ↔ ((row : Row) × Contains entries (v.agent, row) × IsTo cell v.agent row v)

pub no_entries : (cell : Point) → AreOfEntries [] cell []
no_entries cell v = ((λ h. absurd (omega (arith, h.1))), (λ h. absurd (omega (arith, h.1.1))))

pub entries_more : (entries : List (ℕ × Row)) (agent : ℕ) (row : Row) (cell : Point) (old new : List Visit) → AreOfEntries entries cell old → GainsEach old new (IsTo cell agent row) → AreOfEntries (entries ++ (agent, row) ∷ []) cell new
entries_more entries agent row cell old new before gains v =
    let entry : ℕ × Row = (agent, row) in (
      (λ h. elim ((gains v).0 h) [
        | inl o ↦ let had = (before v).0 o in (had.0, (push_iff entries entry (v.agent, had.0)).1 (inl had.1), had.2)
        | inr is ↦ (row, (push_iff entries entry (v.agent, row)).1 (inr (λ i. (is.1.same_agent i, row))), grind arith)
      ]),
      (λ h. grind (arith, gains v, before v, (push_iff entries entry (v.agent, h.0)).0 h.1)),
    )

pub all_through : (rows : BTreeMap ℕ Row) (cell : Point) (visits : List Visit) → IsOrdered nat_cmp rows → AreOfEntries rows.entries cell visits → AreThrough rows.entries cell visits
all_through rows cell visits ordered are v =
    let found : (row : Row) → (get nat_cmp rows v.agent ≡ Some row) ↔ Contains rows.entries (v.agent, row) = btree_map_get_iff nat_cmp_total exact_unsigned rows ordered v.agent in
    let is_row = row_of_lookup rows.entries v.agent in (
      (λ h. let is = (are v).0 h in record { here = is.2.0; row = is.0; live = sym is_row ∙ (found is.0).1 is.1; on_path = omega (arith, is.2.1.early); there = is.2.1.there ∙ ap Some is.2.0 }),
      (λ is. (are v).1 (is.row, (found is.row).0 (is_row ∙ is.live), (is.here, record { same_agent = refl; late = omega arith; early = omega (arith, is.on_path); there = is.there ∙ ap Some (sym is.here) }))),
    )
