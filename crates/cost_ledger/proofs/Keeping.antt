-- What is kept beside the rows, after an edit of the rows.
use Rattle.std.proofs.Common.{◌≡◌, ◌≢◌, ◌⊎◌, inl, inr, ℕ, ◌+◌, ◌<◌, ◌≤◌, List, length, get_or, Some, None, Option, Contains, Bool, true, false, IsTrue, refl, sym, ap, ◌∙◌, subst, arith}
use mathlib.Core.Logic.{◌↔◌}
use Rattle.std.specs.Prelude.{All}
use Rattle.std.specs.List.Sorted.{IsStrictlySortedBy}
use Rattle.std.specs.declared.cmp.Ordering.TheVariants.{Less}
use Rattle.std.proofs.lemmas.Bool.Decides.{nat_tests}
use Rattle.std.proofs.lemmas.Option.{same_Some, slice_get-get_or}
use Rattle.std.proofs.lemmas.List.{get_or_default}
use Rattle.std.proofs.lemmas.List.Sums.{sum_by-le}
use Rattle.std.proofs.lemmas.Map.Keys.{Less-from_sorted}
use Rattle.grid_cells.specs.Cell.{Point}
use Rattle.grid_cells.specs.Grid.{Chart, IsClosed}
use Rattle.grid_cells.specs.declared.numbers.TheConstants.{MOST_AGENT}
use Rattle.plan_table.specs.declared.paths.TheConstants.{MOST_LAST_INDEX}
use Rattle.plan_table.specs.Path.{last_index, place, IsPath}
use Rattle.plan_table.specs.Plans.{IsByAgent, row_of, ChangesRow}
use Rattle.plan_table.specs.Order.{ComesBefore}
use Rattle.plan_table.specs.declared.plans.Row.{Row}
use Rattle.plan_table.proofs.Fleets.{row_here}
use Rattle.plan_table.proofs.Rows.{rows_few}
use Rattle.cost_ledger.specs.Kept.{Keeps, AreRests, SwapsRow, last_of_row, ends_elsewhere, sum_of_rows, rest, visit_cmp}
use Rattle.cost_ledger.specs.Ledger.{SameClosedBut, SameAt}
use Rattle.plan_table.specs.Sets.{Gains, Loses}
use Rattle.cost_ledger.specs.Sets.{GainsEach, LosesEach}
use Rattle.cost_ledger.specs.Through.{IsThrough, AreThrough}
use Rattle.mapf_rules.specs.Visits.{IsBlocked, visit_key, AreVisits}
use Rattle.mapf_rules.specs.VisitSearch.{IsVisitIn}
use Rattle.cost_ledger.specs.declared.rests.Rest.{Rest}
use Rattle.mapf_rules.specs.declared.visits.Visit.{Visit}
use Rattle.cost_ledger.proofs.RowSums.{sum_remove}

pub same_or_apart : (a b : ℕ) → (a ≡ b) ⊎ (a ≢ b)
same_or_apart a b = grind arith

-- what holds of each row holds after a change of one, if it holds of that one
each_row : (P : ℕ → Row → Type 0) (rows new : List (ℕ × Row)) (agent : ℕ) (after : Option Row) → ChangesRow rows new agent after → ((a : ℕ) (row : Row) → row_of rows a ≡ Some row → P a row) → ((row : Row) → after ≡ Some row → P agent row) → (a : ℕ) (row : Row) → row_of new a ≡ Some row → P a row
each_row P rows new agent after change before here a row live = elim (same_or_apart a agent) [
  | inl e ↦ subst (λ q. P q row) (sym e) (here row (sym change.this_agent ∙ ap (row_of new) (sym e) ∙ live))
  | inr apart ↦ before a row (sym (change.other_agents a apart) ∙ live)
]

-- ---- rests
pub rests_put : (rows new : List (ℕ × Row)) (agent : ℕ) (row : Row) (old rests : List Rest) → row_of rows agent ≡ None → ChangesRow rows new agent (Some row) → AreRests rows old → Gains old rests (rest (last_of_row row) agent) → AreRests new rests
rests_put rows new agent row old rests absent change before gains r = grind (arith, before r, gains r, change.this_agent, change.other_agents r.agent)

pub rests_take : (rows new : List (ℕ × Row)) (agent : ℕ) (row : Row) (old rests : List Rest) → row_of rows agent ≡ Some row → ChangesRow rows new agent None → AreRests rows old → Loses old rests (rest (last_of_row row) agent) → AreRests new rests
rests_take rows new agent row old rests live change before loses r = grind (arith, before r, loses r, change.this_agent, change.other_agents r.agent)

-- ---- visits
abbrev pub VisitsOf : Chart → List (ℕ × Row) → List Visit → Type 0
VisitsOf grid rows visits = (v : Visit) → Contains visits v ↔ ((row : Row) × (row_of rows v.agent ≡ Some row) × IsBlocked grid row.plan v.time v.cell)

pub visits_of : (grid : Chart) (rows : List (ℕ × Row)) (visits : List Visit) → AreVisits grid rows visits → VisitsOf grid rows visits
visits_of grid rows visits are v = grind (arith, are.exact v)

-- of one agent at one time there is one visit, so visits in their whole order are in the order of agents and times
before_key : (a b : Visit) → visit_cmp a b ≡ Less → (a.agent ≡ b.agent → a.time ≡ b.time → a.cell ≡ b.cell) → ComesBefore (visit_key a) (visit_key b)
before_key a b less same = grind (arith, nat_tests)

pub visits_listed : (grid : Chart) (rows : List (ℕ × Row)) (visits : List Visit) → IsStrictlySortedBy visit_cmp visits → VisitsOf grid rows visits → AreVisits grid rows visits
visits_listed grid rows visits sorted are = record {
  ascending = λ i j d lt within.
      let a = get_or visits i d in
      let b = get_or visits j d in
      let of_a = (are a).0 (i, omega arith, get_or_default visits i a d (omega arith)) in
      let of_b = (are b).0 (j, within, get_or_default visits j b d within) in
      before_key a b (Less-from_sorted visit_cmp visits i j d sorted lt within) (λ agents times. grind (arith, of_a, of_b));
  exact = λ v. grind (arith, are v);
}

pub visits_put : (grid : Chart) (rows new : List (ℕ × Row)) (agent : ℕ) (row : Row) (old visits : List Visit) → IsStrictlySortedBy visit_cmp visits → row_of rows agent ≡ None → ChangesRow rows new agent (Some row) → AreVisits grid rows old → GainsEach old visits (IsVisitIn grid agent row.plan 0 (last_of_row row + 1)) → AreVisits grid new visits
visits_put grid rows new agent row old visits sorted absent change before gains =
    visits_listed grid new visits sorted (λ v. grind (arith, visits_of grid rows old before v, gains v, change.this_agent, change.other_agents v.agent))

pub visits_take : (grid : Chart) (rows new : List (ℕ × Row)) (agent : ℕ) (row : Row) (old visits : List Visit) → IsStrictlySortedBy visit_cmp visits → row_of rows agent ≡ Some row → ChangesRow rows new agent None → AreVisits grid rows old → LosesEach old visits (IsThrough agent row.plan 0 (last_of_row row + 1)) → AreVisits grid new visits
visits_take grid rows new agent row old visits sorted live change before loses =
    visits_listed grid new visits sorted (λ v. grind (arith, visits_of grid rows old before v, loses v, change.this_agent, change.other_agents v.agent))

pub visits_swap : (grid : Chart) (rows new : List (ℕ × Row)) (agent : ℕ) (row after : Row) (visits : List Visit) → row.plan ≡ after.plan → row_of rows agent ≡ Some row → ChangesRow rows new agent (Some after) → AreVisits grid rows visits → AreVisits grid new visits
visits_swap grid rows new agent row after visits plans live change before = record {
  ascending = before.ascending;
  exact = λ v. grind (arith, visits_of grid rows visits before v, change.this_agent, change.other_agents v.agent);
}

-- ---- all that is kept
abbrev Lawful : ℕ → Row → Type 0
Lawful agent row = (agent ≤ MOST_AGENT) × IsPath row.plan

pub one_at_most : (row : Row) → ends_elsewhere row ≤ 1
one_at_most row = grind (arith, nat_tests)

-- an agent's number is part of the sum
pub row_counts : (number : Row → ℕ) (rows : List (ℕ × Row)) (agent : ℕ) (row : Row) → row_of rows agent ≡ Some row → number row ≤ sum_of_rows number rows
row_counts number rows agent row live = omega (arith, sum_remove number agent row rows live)

module _ (rows : List (ℕ × Row)) (rests : List Rest) (total elsewhere : ℕ) (keeps : Keeps rows rests total elsewhere) where
  row_at : (k : ℕ) (d : ℕ × Row) → k < length rows → row_of rows (get_or rows k d).0 ≡ Some (get_or rows k d).1
  row_at k d within = (row_here rows keeps.by_agent k (get_or rows k d).0 (get_or rows k d).1 (slice_get-get_or rows k d within)).0

  pub all_paths : All (λ entry. IsPath entry.1.plan) rows
  all_paths k d within = (keeps.lawful (get_or rows k d).0 (get_or rows k d).1 (row_at k d within)).1

  few : length rows ≤ MOST_AGENT + 1
  few = rows_few rows (record { by_agent = keeps.by_agent; numbers = λ k d within. (keeps.lawful (get_or rows k d).0 (get_or rows k d).1 (row_at k d within)).0 })

  pub total_small : total ≤ 8589934592
  total_small = omega (arith, few, keeps.total_is, sum_by-le (λ (entry : ℕ × Row). last_of_row entry.1) MOST_LAST_INDEX rows (λ k d within. (all_paths k d within).walkable.short))

  pub elsewhere_small : elsewhere ≤ 65536
  elsewhere_small = omega (arith, few, keeps.elsewhere_is, sum_by-le (λ (entry : ℕ × Row). ends_elsewhere entry.1) 1 rows (λ k d within. one_at_most (get_or rows k d).1))

module _ (rows new : List (ℕ × Row)) (rests new_rests : List Rest) (total elsewhere new_total new_elsewhere : ℕ) (agent : ℕ) where
  pub keeps_put : (row : Row) (time : ℕ) → Keeps rows rests total elsewhere → row_of rows agent ≡ None → agent ≤ MOST_AGENT → IsPath row.plan → ChangesRow rows new agent (Some row) → IsByAgent new → ((number : Row → ℕ) → sum_of_rows number new ≡ sum_of_rows number rows + number row) → time ≡ last_of_row row → Gains rests new_rests (rest time agent) → new_total ≡ total + time → new_elsewhere ≡ elsewhere + ends_elsewhere row → Keeps new new_rests new_total new_elsewhere
  keeps_put row time keeps absent number_small path change by_agent sums last rests_gain totals elsewheres = record {
    by_agent = by_agent;
    lawful = each_row Lawful rows new agent (Some row) change keeps.lawful (λ r e. subst (Lawful agent) (same_Some row r e) (number_small, path));
    rests_are = rests_put rows new agent row rests new_rests absent change keeps.rests_are (rw last at rests_gain);
    total_is = omega (arith, keeps.total_is, sums last_of_row);
    elsewhere_is = omega (arith, keeps.elsewhere_is, sums ends_elsewhere);
  }

  pub keeps_take : (row : Row) (time : ℕ) → Keeps rows rests total elsewhere → row_of rows agent ≡ Some row → ChangesRow rows new agent None → IsByAgent new → ((number : Row → ℕ) → sum_of_rows number new + number row ≡ sum_of_rows number rows) → time ≡ last_of_row row → Loses rests new_rests (rest time agent) → new_total + time ≡ total → new_elsewhere + ends_elsewhere row ≡ elsewhere → Keeps new new_rests new_total new_elsewhere
  keeps_take row time keeps live change by_agent sums last rests_lose totals elsewheres = record {
    by_agent = by_agent;
    lawful = each_row Lawful rows new agent None change keeps.lawful (λ r e. absurd (cc));
    rests_are = rests_take rows new agent row rests new_rests live change keeps.rests_are (rw last at rests_lose);
    total_is = omega (arith, keeps.total_is, sums last_of_row);
    elsewhere_is = omega (arith, keeps.elsewhere_is, sums ends_elsewhere);
  }

  pub keeps_aim : (row : Row) (goal : Point) → Keeps rows rests total elsewhere → SwapsRow rows new agent row (record row { goal = goal }) → IsByAgent new → new_elsewhere + ends_elsewhere row ≡ elsewhere + ends_elsewhere (record row { goal = goal }) → Keeps new rests total new_elsewhere
  keeps_aim row goal keeps swap by_agent elsewheres = record {
    by_agent = by_agent;
    lawful = each_row Lawful rows new agent _ swap.now keeps.lawful (λ r e. subst (Lawful agent) (same_Some _ r e) (keeps.lawful agent row swap.was));
    rests_are = λ r. grind (arith, keeps.rests_are r, swap.was, swap.now.this_agent, swap.now.other_agents r.agent);
    total_is = omega (arith, keeps.total_is, swap.sums last_of_row);
    elsewhere_is = omega (arith, keeps.elsewhere_is, swap.sums ends_elsewhere);
  }

-- ---- a cell that is opened or closed
module _ (old new grid : Chart) (rows : List (ℕ × Row)) (found : List Visit) (cell : Point) (before visits : List Visit) (through : AreThrough rows cell found) (but : SameClosedBut old new cell) (at : SameAt grid new cell) (sorted : IsStrictlySortedBy visit_cmp visits) (were : AreVisits old rows before) where
  at_found : (v : Visit) (row : Row) → v.cell ≡ cell → row_of rows v.agent ≡ Some row → v.time ≤ last_index row.plan → place row.plan v.time ≡ Some v.cell → Contains found v
  at_found v row e live on there = (through v).1 (record { here = e; row = row; live = live; on_path = on; there = there ∙ ap Some e })

  pub visits_closed : IsClosed grid cell → GainsEach before visits (Contains found) → AreVisits new rows visits
  visits_closed closed gains = visits_listed new rows visits sorted (λ v. (
    (λ h. elim ((gains v).0 h) [
      | inl o ↦ let is = (were.exact v).0 o in (is.row, is.live, grind (arith, but v.cell, at, closed))
      | inr f ↦ let is = (through v).0 f in (is.row, is.live, grind (arith, at, closed))
    ]),
    (λ h. grind (arith, gains v, visits_of old rows before were v, at_found v h.0, but v.cell)),
  ))

  pub visits_opened : (IsClosed grid cell → ⊥) → LosesEach before visits (Contains found) → AreVisits new rows visits
  visits_opened opened loses = visits_listed new rows visits sorted (λ v. (
    (λ h. let is = (were.exact v).0 ((loses v).0 h).0 in (is.row, is.live, grind (arith, loses v, at_found v is.row, but v.cell))),
    (λ h.
        let here : Contains found v → v.cell ≡ cell = λ f. ((through v).0 f).here in
        grind (arith, loses v, visits_of old rows before were v, but v.cell, at, opened)),
  ))

  pub visits_flipped : (closed : Bool) → (IsTrue closed ↔ IsClosed grid cell) → (closed ≡ true → GainsEach before visits (Contains found)) → (closed ≡ false → LosesEach before visits (Contains found)) → AreVisits new rows visits
  visits_flipped true is adds takes = visits_closed (is.0 refl) (adds refl)
  visits_flipped false is adds takes = visits_opened (grind arith) (takes refl)
