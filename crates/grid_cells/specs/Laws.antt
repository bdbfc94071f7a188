-- What holds of walks and distances on every map (consequences of the definitions).
use Rattle.std.specs.Prelude.{◌≡◌, ℕ, ◌+◌, ◌↔◌, Option, List, length}
use Rattle.grid_cells.specs.Cell.{Point}
use Rattle.grid_cells.specs.Grid.{Chart}
use Rattle.grid_cells.specs.Walks.{Walk, IsWalk, IsDistance}

-- a cell has one distance to a goal
abbrev pub OneDistance : Type 0
OneDistance = (grid : Chart) (from goal : Point) (a b : Option ℕ) → IsDistance grid from goal a → IsDistance grid from goal b → a ≡ b

-- a walk by the number of its steps is a walk as a list of cells
abbrev pub WalksAreLists : Type 0
WalksAreLists = (grid : Chart) (steps : ℕ) (from to : Point) → Walk grid steps from to ↔ ((cells : List Point) × (length cells ≡ steps + 1) × IsWalk grid from to cells)
