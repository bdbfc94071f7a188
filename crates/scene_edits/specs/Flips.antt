-- The cells that edits opened or closed (this project's choice).
use Rattle.std.specs.Prelude.{◌≢◌, Bool, Option, List, Contains, slice_get}
use Rattle.grid_cells.specs.Cell.{Point}
use Rattle.grid_cells.specs.Size.{Holds}
use Rattle.grid_cells.specs.Grid.{Chart, flag_index}
use Rattle.scene_edits.specs.Scene.{AreIn}

-- a cell's flag
abbrev pub flag_at : Chart → Point → Option Bool
flag_at grid cell = slice_get grid.flags (flag_index grid.size cell)

-- each cell of the map whose flag differs in the two grids is in the list, and the map has each cell of the list
pub record HoldFlips (old new : Chart) (cells : List Point) : Type 0 where
  pub differ : (cell : Point) → Holds old.size cell → flag_at old cell ≢ flag_at new cell → Contains cells cell
  pub on_map : AreIn old.size cells
