-- A cell at the front of a line: words for the reader's own steps (this project's choice).
use Rattle.std.specs.Prelude.{◌≡◌, ℕ, true, Option, Some, List, ◌∷◌, ◌++◌}
use Rattle.std.specs.Str.{all_ascii_digits}
use Rattle.grid_cells.specs.Cell.{Point}
use Rattle.bench_reader.specs.Words.{words_of}
use Rattle.session_lines.specs.Values.{place_of, cell_of}

-- the line begins with digits that write the column or row, and goes on with the rest
abbrev pub BeginsWithPlace : List ℕ → ℕ → List ℕ → Type 0
BeginsWithPlace line place rest = (digits : List ℕ) × (line ≡ digits ++ rest) × (all_ascii_digits digits ≡ true) × (place_of digits ≡ Some place)

-- the first word of the line names the cell, and the words of the rest stand behind it
abbrev pub BeginsWithCell : List ℕ → Point → List ℕ → Type 0
BeginsWithCell line cell rest = (word : List ℕ) × (words_of line ≡ word ∷ words_of rest) × (cell_of word ≡ Some cell)

-- the same of whatever the first word names
abbrev pub BeginsWithWordOf : List ℕ → Option Point → List ℕ → Type 0
BeginsWithWordOf line named rest = (word : List ℕ) × (words_of line ≡ word ∷ words_of rest) × (named ≡ cell_of word)
