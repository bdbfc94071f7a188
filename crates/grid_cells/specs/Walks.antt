-- Walks over open cells, and distances (Stern et al. 2019: shortest paths on a 4-connected grid).
-- That a walk is said twice, as a list and by its number of steps, is this project's choice: the two are proved to be one.
use Rattle.std.specs.Prelude.{◌≡◌, ℕ, zero, suc, ◌-◌, ◌≤◌, Option, Some, None, List, All, length, slice_get}
use Rattle.std.specs.List.{AllAdjacentBelow}
use Rattle.grid_cells.specs.Cell.{Point, IsAdjacent}
use Rattle.grid_cells.specs.Grid.{Chart, IsOpen}

-- a walk as a list: open cells, each adjacent to the next, that begin and end with these two
pub record IsWalk (grid : Chart) (from to : Point) (cells : List Point) : Type 0 where
  pub all_open : All (IsOpen grid) cells
  pub adjacent : AllAdjacentBelow IsAdjacent cells (length cells)
  pub begins : slice_get cells 0 ≡ Some from
  pub ends : slice_get cells (length cells - 1) ≡ Some to

-- a walk of that many steps: from each open cell to an open one adjacent to it
abbrev pub Walk : Chart → ℕ → Point → Point → Type 0
Walk grid zero from to = IsOpen grid from × (from ≡ to)
Walk grid (suc steps) from to = IsOpen grid from × ((next : Point) × IsAdjacent from next × Walk grid steps next to)

-- the least length of a walk, and none where there is no walk (shortest path on a 4-connected grid)
abbrev pub IsDistance : Chart → Point → Point → Option ℕ → Type 0
IsDistance grid from goal None = (steps : ℕ) → Walk grid steps from goal → ⊥
IsDistance grid from goal (Some least) = Walk grid least from goal × ((steps : ℕ) → Walk grid steps from goal → least ≤ steps)
