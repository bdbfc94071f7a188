-- The end of a route: its last index, its last cell, and whether its agent leaves then (Stern et al. 2019, behaviour at the target).
use Rattle.std.specs.Prelude.{◌≡◌, ℕ, Some, Option, None, slice_get}
use Rattle.grid_cells.specs.Cell.{Point}
use Rattle.plan_table.specs.Path.{last_index, IsPath}
use Rattle.plan_table.specs.Route.{Route}
use Rattle.where_index.specs.declared.ends.End.{End}

-- the end is that of the route, which is along a path
pub record IsEndOfRoute (end : End) (r : Route) : Type 0 where
  pub last : end.last ≡ last_index r.path
  pub cell : slice_get r.path (last_index r.path) ≡ Some end.cell
  pub leaves : end.leaves ≡ r.leaves
  pub path : IsPath r.path

-- the agent has an end exactly where it has a route, and it is that of the route
abbrev pub IsEndOf : Option End → Option Route → Type 0
IsEndOf None None = Unit {0}
IsEndOf None (Some r) = ⊥
IsEndOf (Some end) None = ⊥
IsEndOf (Some end) (Some r) = IsEndOfRoute end r

-- the last index and the last cell of the route, if there is one
abbrev pub EndsAt : Option Route → Option (ℕ × Point) → Type 0
EndsAt None None = Unit {0}
EndsAt None (Some end) = ⊥
EndsAt (Some r) None = ⊥
EndsAt (Some r) (Some end) = (end.0 ≡ last_index r.path) × (slice_get r.path (last_index r.path) ≡ Some end.1)
