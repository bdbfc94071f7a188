-- A path over open cells that ends at the goal takes at least as long as its lower bound.
use Rattle.std.proofs.Common.{◌≡◌, ℕ, suc, ◌-◌, ◌≤◌, min, List, [], ◌∷◌, length, get_or, Some, None, Option, refl, sym, subst, ◌⊎◌, inl, inr, arith}
use Rattle.std.specs.Option.{SomeIff}
use Rattle.std.specs.List.{slice_get, AllAdjacentBelow, All}
use Rattle.std.proofs.lemmas.Bool.{cases_lt}
use Rattle.std.proofs.lemmas.Option.{same_Some, slice_get-get_or}
use Rattle.std.proofs.lemmas.List.Elements.{All-head, All-tail}
use Rattle.grid_cells.specs.Cell.{Point, IsStep, steps_between}
use Rattle.grid_cells.specs.Grid.{Chart, IsOpen, IsClosed}
use Rattle.grid_cells.specs.Walks.{Walk, IsDistance}
use Rattle.grid_cells.specs.Size.{Holds}
use Rattle.plan_table.specs.Path.{last_index, place, IsPath}
use Rattle.plan_table.specs.declared.plans.Row.{Row}
use Rattle.plan_table.proofs.Order.{EachOf-with}
use Rattle.mapf_rules.specs.Costs.{IsFinished}
use Rattle.mapf_rules.specs.Visits.{IsUnblocked}
use Rattle.mapf_rules.proofs.Settling.{settles, settle_once}
use Rattle.desk_report.specs.Report.{IsLine}
use Rattle.desk_report.specs.Laws.{SettleIsBoundAndGap, IsPathOn, HasBoundAndGap}
use Rattle.desk_report.specs.declared.reports.AgentLine.{AgentLine}

no_steps : (a b : Point) → steps_between a b ≡ 0 → a ≡ b
no_steps a b h = grind arith

steps_tail : (a b : Point) (cells : List Point) → AllAdjacentBelow IsStep (a ∷ b ∷ cells) (length (a ∷ b ∷ cells)) → AllAdjacentBelow IsStep (b ∷ cells) (length (b ∷ cells))
steps_tail a b cells steps k d h = grind (arith, steps (suc k) d)

-- open cells that are each a step from the one before make a walk from the first to the last, of at most as many steps
walks_along : (grid : Chart) (a : Point) (cells : List Point) → All (IsOpen grid) (a ∷ cells) → AllAdjacentBelow IsStep (a ∷ cells) (length (a ∷ cells)) → (goal : Point) → slice_get (a ∷ cells) (length cells) ≡ Some goal → (steps : ℕ) × (steps ≤ length cells) × Walk grid steps a goal
walks_along grid a [] free steps goal last = (0, omega arith, (All-head (IsOpen grid) a [] free, same_Some a goal last))
walks_along grid a (b ∷ cells) free steps goal last =
    let rest = walks_along grid b cells (All-tail (IsOpen grid) a (b ∷ cells) free) (steps_tail a b cells steps) goal last in
    let step : IsStep a b = steps 0 a (omega arith) in
    elim (cases_lt (steps_between a b) 1) [
      | inl none ↦ (rest.0, omega (arith, rest.1), subst (λ p. Walk grid rest.0 p goal) (sym (no_steps a b (omega arith))) rest.2)
      | inr some ↦ (suc rest.0, omega (arith, rest.1), (All-head (IsOpen grid) a (b ∷ cells) free, (b, omega arith, rest.2)))
    ]

-- an open path that ends at the goal makes a walk of at most as many steps
walk_given : (grid : Chart) (path : List Point) (start goal : Point) → IsPath path → All (IsOpen grid) path → place path 0 ≡ Some start → slice_get path (last_index path) ≡ Some goal → (steps : ℕ) × (steps ≤ last_index path) × Walk grid steps start goal
walk_given grid [] start goal is free first last = absurd (omega (arith, is.walkable.some_cell))
walk_given grid (a ∷ cells) start goal is free first last =
    let at_start : min 0 (last_index (a ∷ cells)) ≡ 0 = omega arith in
    let same : a ≡ start = same_Some a start (rw at_start at first) in
    let at_end : last_index (a ∷ cells) ≡ length cells = omega arith in
    let walk = walks_along grid a cells free is.walkable.steps goal (rw at_end at last) in
    (walk.0, omega (arith, walk.1), subst (λ p. Walk grid walk.0 p goal) same walk.2)

-- so it has a lower bound, and takes at least as long
bound_given : (grid : Chart) (path : List Point) (start goal : Point) (bound : Option ℕ) → IsPath path → All (IsOpen grid) path → place path 0 ≡ Some start → slice_get path (last_index path) ≡ Some goal → IsDistance grid start goal bound → (d : ℕ) × (bound ≡ Some d) × (d ≤ last_index path)
bound_given grid path start goal bound is free first last dist =
    let walk = walk_given grid path start goal is free first last in
    by_bound bound dist walk.0 walk.2 walk.1
  where
    by_bound : (o : Option ℕ) → IsDistance grid start goal o → (n : ℕ) → Walk grid n start goal → n ≤ last_index path → (d : ℕ) × (o ≡ Some d) × (d ≤ last_index path)
    by_bound None none n w few = absurd (none n w)
    by_bound (Some d) least n w few = let lower : d ≤ n = least.1 n w in (d, refl, omega arith)

-- a cell of the map is open or closed
open_or_closed : (grid : Chart) (cell : Point) → Holds grid.size cell → IsOpen grid cell ⊎ IsClosed grid cell
open_or_closed grid cell held = grind arith

-- an unblocked path on the map is over open cells
all_open : (grid : Chart) (path : List Point) → All (Holds grid.size) path → IsUnblocked grid path → All (IsOpen grid) path
all_open grid path held free k d within =
    let cell : Point = get_or path k d in
    let index : min k (last_index path) ≡ k = omega arith in
    let there : place path k ≡ Some cell = rw index (slice_get-get_or path k d within) in
    elim (open_or_closed grid cell (held k d within)) [
      | inl is_open ↦ is_open
      | inr closed ↦ absurd (free k cell (record { on_path = omega arith; there = there; closed = closed }))
    ]

-- a finished agent's path is at its goal at its last index
at_goal : (row : Row) → IsPath row.plan → IsFinished row → slice_get row.plan (last_index row.plan) ≡ Some row.goal
at_goal row is finished =
    let path : List Point = row.plan in
    let rest = settle_once path finished.0 (last_index path) finished.1 (settles path is) in
    grind arith

-- a finished agent's unblocked path makes a walk from its start to its goal
pub walk_of_row : (grid : Chart) (row : Row) → IsPath row.plan → All (Holds grid.size) row.plan → IsFinished row → IsUnblocked grid row.plan → (start : Point) → place row.plan 0 ≡ Some start → (steps : ℕ) × (steps ≤ last_index row.plan) × Walk grid steps start row.goal
walk_of_row grid row is held finished free start starts = walk_given grid row.plan start row.goal is (all_open grid row.plan held free) starts (at_goal row is finished)

-- what is given where a fact holds, where it does
given_there : {X : Type 0} (o : Option X) (P : Type 0) (v : X) → SomeIff o P v → P → o ≡ Some v
given_there o P v iff holds = grind arith

line_law : (grid : Chart) (entry : ℕ × Row) (line : AgentLine) → IsPathOn grid entry.1.plan → IsLine grid entry line → IsFinished entry.1 → IsUnblocked grid entry.1.plan → HasBoundAndGap line
line_law grid entry line on is finished free =
    let path : List Point = entry.1.plan in
    let settle = settle_once path line.settle (last_index path) is.settle (settles path on.path_is) in
    let given = bound_given grid path is.bound.start entry.1.goal line.bound on.path_is (all_open grid path on.held free) is.bound.starts (at_goal entry.1 on.path_is finished) is.bound.distance in
    let gap = given_there line.gap (IsFinished entry.1 × IsUnblocked grid path) _ is.gap (finished, free) in
    record { bound = given.0; gap = line.settle - given.0; bound_given = given.1; gap_given = grind (arith, given.1); sum = omega (arith, given.2) }

pub gap_law : SettleIsBoundAndGap
gap_law grid mode rows report paths is =
    EachOf-with (IsLine grid) (λ (entry : ℕ × Row) (line : AgentLine). IsFinished entry.1 → IsUnblocked grid entry.1.plan → HasBoundAndGap line) (λ entry. IsPathOn grid entry.1.plan) (λ entry line on is_line finished free. line_law grid entry line on is_line finished free) rows report.lines paths is.lines
