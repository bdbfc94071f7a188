-- Lists of cells in brackets: with commas `(x,y),(x,y),..`, with arrows `(row,column)->(row,column)->..`.
-- What joins two cells may stand behind the last one too, or be left out between blanks; blanks stand anywhere but in a number.
use Rattle.std.specs.Prelude.{ℕ, ◌≡◌, ◌==◌, Option, Some, None, Result, Ok, Err, List, [], ◌∷◌, ◌++◌, length, codes, bytes_eq, if◌then◌else◌}
use Rattle.std.specs.Option.{option_and_then, option_map_or}
use Rattle.std.specs.List.{slice_split}
use Rattle.grid_cells.specs.Cell.{Point, point}
use Rattle.session_lines.specs.Values.{place_of}
use Rattle.path_files.specs.Lines.{behind, behind_blanks, cut, trimmed}
use Rattle.path_files.specs.declared.faults.PathsFault.{PathsFault}
use Rattle.path_files.specs.declared.faults.PathsFault.TheVariants.{BadCell}
use Rattle.path_files.specs.declared.cells.Notation.{Notation}
use Rattle.path_files.specs.declared.cells.Notation.TheVariants.{Commas, Arrows}

-- what stands between a cell and the next one
abbrev pub join_of : Notation → List ℕ
join_of Commas = codes ","
join_of Arrows = codes "->"

-- column and row between commas, row and column between arrows
abbrev pub ordered : Notation → ℕ → ℕ → Point
ordered Commas first second = point first second
ordered Arrows first second = point second first

-- the cell between brackets: two numbers and a comma
abbrev pub cell_between : Notation → List ℕ → Option Point
cell_between notation pair =
    option_and_then
    (λ parts. option_and_then (λ first. option_and_then (λ second. Some (ordered notation first second)) (place_of (trimmed parts.1))) (place_of (trimmed parts.0)))
    (cut 44 pair)

-- what stands behind blanks, what joins cells, and blanks; what joins may be missing
abbrev pub behind_join : List ℕ → List ℕ → List ℕ
behind_join front part = option_map_or behind_blanks (behind front (behind_blanks part)) (behind_blanks part)

-- the cell of a part that ends before its `)`: what joins it to the one before, `(`, and the pair
abbrev pub cell_in : Notation → List ℕ → List ℕ → Option Point
cell_in notation front part = option_and_then (cell_between notation) (behind (codes "(") (behind_join front part))

-- the fault of a part that is no cell, at its place in the list
abbrev pub IsBadCell : Notation → ℕ → ℕ → List ℕ → List ℕ → PathsFault → Type 0
IsBadCell notation line at front part fault = (fault ≡ BadCell line at) × (cell_in notation front part ≡ None)

-- a text cut at each `)`
abbrev pub parts_of : List ℕ → List (List ℕ)
parts_of text = slice_split (λ byte. byte == 41) text

-- the cells so far and those of these parts; behind the last `)` stands nothing, or what joins cells
abbrev pub cells_from : Notation → ℕ → List ℕ → List Point → List (List ℕ) → Result (List Point) PathsFault
cells_from notation line front cells [] = Ok cells
cells_from notation line front cells (part ∷ []) = if bytes_eq (behind_join front part) [] then Ok cells else Err (BadCell line (length cells))
cells_from notation line front cells (part ∷ next ∷ parts) =
    option_map_or (λ cell. cells_from notation line (join_of notation) (cells ++ cell ∷ []) (next ∷ parts))
    (cell_in notation front part) (Err (BadCell line (length cells)))

-- the cells of a list, or the first that isn't one
abbrev pub cells_listed : Notation → ℕ → List ℕ → Result (List Point) PathsFault
cells_listed notation line text = cells_from notation line [] [] (parts_of text)
