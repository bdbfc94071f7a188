-- How a line is written: its words with one space between each two, and a line feed (this project's choice).
use Rattle.std.specs.Prelude.{ℕ, List, ◌++◌, Option, Some, None, Bool, true, false, codes, decimal}
use Rattle.std.specs.List.{join_with_byte}
use Rattle.grid_cells.specs.Cell.{Point}

-- the line of the words
abbrev pub line_text : List (List ℕ) → List ℕ
line_text words = join_with_byte 32 words ++ codes "\n"

-- a cell: its column, a comma, its row
abbrev pub cell_text : Point → List ℕ
cell_text cell = decimal cell.x ++ codes "," ++ decimal cell.y

-- a number, or `none` where it is not given
abbrev pub given_text : Option ℕ → List ℕ
given_text (Some number) = decimal number
given_text None = codes "none"

-- an answer of yes or no
abbrev pub answer_text : Bool → List ℕ
answer_text true = codes "yes"
answer_text false = codes "no"
