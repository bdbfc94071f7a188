-- CELL.. of a session line (this project's choice).
use Rattle.std.specs.Prelude.{ℕ, Option, Some, List, [], ◌∷◌}
use Rattle.grid_cells.specs.Cell.{Point}
use Rattle.session_lines.specs.Values.{with_both, cell_of}

-- each word is a cell
abbrev pub cells_of : List (List ℕ) → Option (List Point)
cells_of [] = Some []
cells_of (word ∷ words) = with_both (λ cell cells. cell ∷ cells) (cell_of word) (cells_of words)
