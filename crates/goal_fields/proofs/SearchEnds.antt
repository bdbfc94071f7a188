-- What a search that has come to its end has found.
use Rattle.std.specs.Prelude.{true, false, ◌==◌}
use Rattle.std.proofs.Common.{◌≡◌, ℕ, zero, suc, ◌+◌, ◌<◌, ◌≤◌, List, refl, inl, inr, arith, subst}
use Rattle.std.proofs.lemmas.Bool.{cases_lt}
use Rattle.grid_cells.specs.Cell.{Point}
use Rattle.grid_cells.specs.Size.{Holds}
use Rattle.grid_cells.specs.Grid.{Chart}
use Rattle.grid_cells.specs.Walks.{Walk, IsDistance}
use Rattle.goal_fields.specs.Search.{IsSearch, slot, IsFound, mark_of}
use Rattle.goal_fields.specs.Marks.{mark_at, distance_of, far}
use Rattle.goal_fields.proofs.Neighbours.{IsAdjacent-sym, Walk-open}
use Rattle.goal_fields.specs.declared.search.Search.{Search}
use Rattle.goal_fields.proofs.RepairEnds.{IsRhs-distance}
use Rattle.goal_fields.specs.Rest.{IsAtRest}

-- a search that has come to its end has every walk
pub Walk-marked : (grid : Chart) (goal : Point) (marks : List ℕ) (queue : List Point) (head tail : ℕ) → IsSearch grid goal marks queue head tail → tail ≤ head →
    (m : ℕ) (c : Point) → Walk grid m c goal → (mark_at grid.size marks c < far) × (mark_at grid.size marks c ≤ m)
Walk-marked grid goal marks queue head tail s over zero c w =
    let z : mark_at grid.size marks c ≡ 0 = rw w.1 (s.begun (rw (← w.1) w.0)) in
    (omega arith, omega arith)
Walk-marked grid goal marks queue head tail s over (suc m) c (o, (next, adj, rest)) =
    let ih : (mark_at grid.size marks next < far) × (mark_at grid.size marks next ≤ m) = Walk-marked grid goal marks queue head tail s over m next rest in
    let (i, h, e) = s.placed next ((Walk-open grid goal m next rest).0) ih.0 in
    let same : mark_at grid.size marks (slot queue goal i) ≡ mark_at grid.size marks next = rw e refl in
    let up : mark_at grid.size marks c ≤ mark_at grid.size marks (slot queue goal i) + 1 = s.covered i (omega arith) c (rw e (IsAdjacent-sym c next adj)) o in
    (omega (arith, s.counted, s.small i h, s.sized.cells_most), omega (arith, ih.1))

-- a search that has come to its end has found all distances
pub IsDistance-marked : (grid : Chart) (goal : Point) (marks : List ℕ) (queue : List Point) (head tail : ℕ) → IsSearch grid goal marks queue head tail → tail ≤ head →
    (c : Point) → Holds grid.size c → IsDistance grid c goal (distance_of (mark_at grid.size marks c))
IsDistance-marked grid goal marks queue head tail s over c h = elim (cases_lt (mark_at grid.size marks c) far) [
  | inl below ↦
      let given : (mark_at grid.size marks c == far) ≡ false = grind arith in
      rw given (s.walks c h below, λ m w. (Walk-marked grid goal marks queue head tail s over m c w).1)
  | inr above ↦
      let none : (mark_at grid.size marks c == far) ≡ true = grind (arith, s.bounded c h) in
      rw none (λ m w. absurd (omega (arith, Walk-marked grid goal marks queue head tail s over m c w)))
]

-- after a breadth-first search the marks are at rest
pub IsAtRest-found : (found_by : Search) (grid : Chart) (goal : Point) → IsFound found_by → found_by.grid ≡ grid → found_by.goal ≡ goal → IsAtRest grid goal found_by.marks.items
IsAtRest-found found_by grid goal found same_grid same_goal =
    subst (λ (t : Chart). IsAtRest t goal found_by.marks.items) same_grid (subst (λ (p : Point). IsAtRest found_by.grid p found_by.marks.items) same_goal
    (record {
      sized = found.room.sized;
      goal_held = found.room.goal_held;
      whole = found.room.whole;
      one_g_each = found.room.one_mark_each;
      consistent = IsRhs-distance found_by.grid found_by.goal (mark_of found_by) found.right found.bounded;
    }))
