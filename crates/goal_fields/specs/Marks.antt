-- Distances as numbers, with one number for none.
use Rattle.std.specs.Prelude.{◌≡◌, ℕ, ◌==◌, if◌then◌else◌, Option, Some, None, List, length, slice_index}
use Rattle.grid_cells.specs.Cell.{Point}
use Rattle.grid_cells.specs.Size.{Extent}
use Rattle.grid_cells.specs.Grid.{Chart, flag_index}
use Rattle.cell_queue.specs.Queue.{area}

-- the number that is none
abbrev pub far : ℕ
far = 4294967295

-- 1 at a number that is none
abbrev pub blank : ℕ → ℕ
blank mark = if mark == far then 1 else 0

-- a number as a distance
abbrev pub distance_of : ℕ → Option ℕ
distance_of mark = if mark == far then None else Some mark

-- the cell's number, in a list with one for each cell
abbrev pub mark_at : Extent → List ℕ → Point → ℕ
mark_at size marks cell = slice_index marks (flag_index size cell)

-- there is one flag for each cell
abbrev pub IsWhole : Chart → Type 0
IsWhole grid = length grid.flags ≡ area grid.size
