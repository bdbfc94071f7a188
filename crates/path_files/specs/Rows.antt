-- Rows, which have one cell for each agent (LaCAM's and PIBT's logs: a configuration).
use Rattle.std.specs.Prelude.{ℕ, Option, Some, None, Result, List, [], ◌∷◌, ◌++◌, ◌==◌, nat_lt, length, if◌then◌else◌}
use Rattle.std.specs.Option.{option_map_or}
use Rattle.grid_cells.specs.Cell.{Point}
use Rattle.scene_edits.specs.declared.scenes.TheConstants.{MOST_AGENTS}
use Rattle.path_files.specs.Answers.{and_then, unless}
use Rattle.path_files.specs.Cells.{cells_listed}
use Rattle.path_files.specs.declared.faults.PathsFault.{PathsFault}
use Rattle.path_files.specs.declared.faults.PathsFault.TheVariants.{NoCells, TooManyAgents, CellCount}
use Rattle.path_files.specs.declared.cells.Notation.TheVariants.{Commas}

-- the fault of a row of so many cells, where that of time 0 has `count`
abbrev pub row_fault : ℕ → Option ℕ → ℕ → Option PathsFault
row_fault line count cells =
    if cells == 0 then Some (NoCells line) else
    if nat_lt MOST_AGENTS cells then Some (TooManyAgents line) else
    option_map_or (λ agents. if agents == cells then None else Some (CellCount line)) count None

-- the row in a line with that number
abbrev pub row_in_line : ℕ → Option ℕ → List ℕ → Result (List Point) PathsFault
row_in_line line count text = and_then (cells_listed Commas line text) (λ row. unless (row_fault line count (length row)) row)

-- each path goes on with the row's cell in its place, and begins with it where there is none yet
abbrev pub paths_with_row : List (List Point) → List Point → List (List Point)
paths_with_row paths [] = paths
paths_with_row [] (cell ∷ row) = (cell ∷ []) ∷ paths_with_row [] row
paths_with_row (path ∷ paths) (cell ∷ row) = (path ++ cell ∷ []) ∷ paths_with_row paths row
