-- The visits of rows, as one row gets another plan.
use Rattle.std.proofs.Common.{◌≡◌, inl, inr, ℕ, ◌+◌, ◌≤◌, List, Some, None, Contains, arith}
use Rattle.std.specs.List.Sorted.{IsStrictlySortedBy}
use Rattle.grid_cells.specs.Cell.{Point}
use Rattle.grid_cells.specs.Grid.{Chart}
use Rattle.plan_table.specs.Path.{last_index, IsSameFront, SamePlaces}
use Rattle.plan_table.proofs.Fronts.{same_places}
use Rattle.plan_table.specs.Plans.{row_of, ChangesRow}
use Rattle.plan_table.specs.declared.plans.Row.{Row}
use Rattle.cost_ledger.specs.Kept.{last_of_row, visit_cmp}
use Rattle.cost_ledger.specs.Sets.{GainsEach, LosesEach}
use Rattle.cost_ledger.specs.Through.{IsThrough}
use Rattle.mapf_rules.specs.Visits.{IsBlocked, AreVisits}
use Rattle.mapf_rules.specs.VisitSearch.{IsVisitIn}
use Rattle.mapf_rules.specs.declared.visits.Visit.{Visit}
use Rattle.cost_ledger.proofs.Keeping.{same_or_apart, visits_listed}

-- the two paths are in the same cells before the time, which is at most one after the end of either
pub record SameBelow (one other : List Point) (time : ℕ) : Type 0 where
  pub one_within : time ≤ last_index one + 1
  pub other_within : time ≤ last_index other + 1
  pub same : SamePlaces one other time

-- a common front is the same up to its end
pub same_below : (one other : List Point) (many : ℕ) → IsSameFront one other many → SameBelow one other many
same_below one other many front = record {
  one_within = omega (arith, front.one_within);
  other_within = omega (arith, front.other_within);
  same = same_places one other many front;
}

module _ (grid : Chart) (rows mid next : List (ℕ × Row)) (agent : ℕ) (row come : Row) (live : row_of rows agent ≡ Some row) (goes : ChangesRow rows mid agent None) (comes : ChangesRow mid next agent (Some come)) (since : ℕ) (same : SameBelow row.plan come.plan since) (visits between after : List Visit) (are : AreVisits grid rows visits) (loses : LosesEach visits between (IsThrough agent row.plan since (last_of_row row + 1))) (gains : GainsEach between after (IsVisitIn grid agent come.plan since (last_of_row come + 1))) where
  comes_to : (v : Visit) → Contains after v → (r : Row) × (row_of next v.agent ≡ Some r) × IsBlocked grid r.plan v.time v.cell
  comes_to v h = elim ((gains v).0 h) [
    | inr new ↦ (come, grind (arith, comes.this_agent), new.blocked)
    | inl stays ↦
        let kept = (loses v).0 stays in
        let is = (are.exact v).0 kept.0 in
        elim (same_or_apart v.agent agent) [
          | inr apart ↦ (is.row, grind (arith, comes.other_agents v.agent, goes.other_agents v.agent), is.blocked)
          | inl e ↦ (come, grind (arith, comes.this_agent), grind (arith, kept.1, same.same v.time))
        ]
  ]

  is_there : (v : Visit) (r : Row) → row_of next v.agent ≡ Some r → IsBlocked grid r.plan v.time v.cell → Contains after v
  is_there v r now is =
      grind (arith, gains v, loses v, are.exact v, comes.other_agents v.agent, goes.other_agents v.agent, comes.this_agent, same.same v.time)

  pub visits_replanned : IsStrictlySortedBy visit_cmp after → AreVisits grid next after
  visits_replanned sorted = visits_listed grid next after sorted (λ v. (comes_to v, λ h. is_there v h.0 h.1 h.2))
