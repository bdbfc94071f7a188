-- Grids of open and closed cells (MovingAI map format: a map is rows of cells that can be entered or not).
-- That a map is kept as a list of flags, row by row, is this project's choice.
use Rattle.std.specs.Prelude.{◌≡◌, ℕ, ◌+◌, ◌*◌, Bool, true, Some, List, slice_get, slice_set, replicate}
use Rattle.grid_cells.specs.Cell.{Point}
use Rattle.grid_cells.specs.Size.{Extent, Holds}

-- a map: its size, and whether each cell is open, row by row
pub record Chart : Type 0 where
  pub size : Extent
  pub flags : List Bool

-- the index of a cell's flag
abbrev pub flag_index : Extent → Point → ℕ
flag_index size cell = cell.y * size.width + cell.x

-- the map has the cell, and it is open
abbrev pub IsOpen : Chart → Point → Type 0
IsOpen grid cell = Holds grid.size cell × (slice_get grid.flags (flag_index grid.size cell) ≡ Some true)

-- the map has the cell, and it is not open
abbrev pub IsClosed : Chart → Point → Type 0
IsClosed grid cell = Holds grid.size cell × (IsOpen grid cell → ⊥)

-- a map of that size, all open
abbrev pub open_chart : Extent → Chart
open_chart size = record { size = size; flags = replicate (size.width * size.height) true }

-- the map with one cell opened or closed
abbrev pub with_cell : Chart → Point → Bool → Chart
with_cell grid cell free = record grid { flags = slice_set grid.flags (flag_index grid.size cell) free }
