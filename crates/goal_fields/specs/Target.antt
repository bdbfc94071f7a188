-- What a field stands for.
use Rattle.std.specs.Prelude.{◌≡◌, ◌≢◌, ◌+◌, ◌-◌, ◌^◌, min, ℕ, Bool, Option, List, Contains, slice_get}
use Rattle.grid_cells.specs.Cell.{Point}
use Rattle.grid_cells.specs.Size.{Holds}
use Rattle.grid_cells.specs.Grid.{Chart, flag_index}
use Rattle.goal_fields.specs.Marks.{IsWhole}

-- a grid and a goal
pub record Target : Type 0 where
  pub grid : Chart
  pub goal : Point

-- what a field stands for, how many cells were taken for it since the last repair began, and how many in all
pub record Standing : Type 0 where
  pub grid : Chart
  pub goal : Point
  pub taken : ℕ
  pub total : ℕ

-- the map of a field has a flag for each of its cells, and has the goal
pub record IsSound (field : Standing) : Type 0 where
  pub whole : IsWhole field.grid
  pub held : Holds field.grid.size field.goal

-- so many cells were taken between the two totals, which are held at the greatest u64
abbrev pub HaveCounted : ℕ → ℕ → ℕ → Type 0
HaveCounted count old new = new ≡ min (old + count) (2 ^ 64 - 1)

-- a cell's flag
abbrev pub flag_at : Chart → Point → Option Bool
flag_at grid cell = slice_get grid.flags (flag_index grid.size cell)

-- each cell whose state differs in the two grids is in the list
abbrev pub Covers : List Point → Chart → Chart → Type 0
Covers changed old new = (cell : Point) → Holds old.size cell → flag_at old cell ≢ flag_at new cell → Contains changed cell
