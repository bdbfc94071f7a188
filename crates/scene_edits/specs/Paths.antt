-- The path of a list of cells.
use Rattle.std.specs.Prelude.{Some, List, [], ◌∷◌, if◌then◌else◌}
use Rattle.grid_cells.specs.Cell.{Point}
use Rattle.plan_table.specs.Route.{is_cell}

-- the path that goes from the cell on along a path: that of one cell alone needs no wait at it
abbrev pub led_by : Point → List Point → List Point
led_by cell [] = cell ∷ []
led_by cell (next ∷ []) = if is_cell (Some next) cell then cell ∷ [] else cell ∷ next ∷ []
led_by cell (next ∷ later ∷ rest) = cell ∷ next ∷ later ∷ rest

-- the cells without the waits at their end (this project's choice)
abbrev pub path_of : List Point → List Point
path_of [] = []
path_of (cell ∷ rest) = led_by cell (path_of rest)
