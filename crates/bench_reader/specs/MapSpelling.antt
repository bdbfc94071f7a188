-- How a map is written (MovingAI grid benchmarks, map format).
use Rattle.std.specs.Prelude.{ℕ, zero, suc, Bool, true, false, List, [], ◌∷◌, ◌++◌, map, flat_map, take, drop, codes, decimal}
use Rattle.grid_cells.specs.Size.{Extent}
use Rattle.grid_cells.specs.Grid.{Chart}

-- `.` for an open cell, `@` for a closed one
abbrev pub letter_of : Bool → ℕ
letter_of true = 46
letter_of false = 64

abbrev pub header_lines : Extent → List (List ℕ)
header_lines size = codes "type octile" ∷ (codes "height " ++ decimal size.height) ∷ (codes "width " ++ decimal size.width) ∷ codes "map" ∷ []

-- so many rows of that width
abbrev pub row_lines : ℕ → ℕ → List Bool → List (List ℕ)
row_lines width zero flags = []
row_lines width (suc height) flags = map letter_of (take width flags) ∷ row_lines width height (drop width flags)

-- the lines, each with a line feed at its end
abbrev pub spelled : List (List ℕ) → List ℕ
spelled lines = flat_map (λ line. line ++ 10 ∷ []) lines

abbrev pub map_spelling : Chart → List ℕ
map_spelling grid = spelled (header_lines grid.size ++ row_lines grid.size.width grid.size.height grid.flags)
