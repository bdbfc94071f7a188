-- The text of a map (MovingAI grid benchmarks, map format).
use Rattle.std.specs.Prelude.{◌≡◌, ℕ, Bool, true, false, ◌&&◌, Option, Some, None, List, [], ◌∷◌, drop, codes, bytes_eq, if◌then◌else◌}
use Rattle.std.specs.List.{list_all}
use Rattle.grid_cells.specs.Size.{Extent, IsSize}
use Rattle.grid_cells.specs.Grid.{Chart}
use Rattle.bench_reader.specs.Lines.{lines_of, line_at, is_blank_line}
use Rattle.bench_reader.specs.Words.{words_of, number_of}
use Rattle.bench_reader.specs.Letters.{BeginsWithRows}

-- the two words of a map's first line
abbrev pub is_title : List (List ℕ) → Bool
is_title (first ∷ second ∷ []) = bytes_eq first (codes "type") && bytes_eq second (codes "octile")
is_title _ = false

-- the one word of its fourth line
abbrev pub is_marker : List (List ℕ) → Bool
is_marker (word ∷ []) = bytes_eq word (codes "map")
is_marker _ = false

-- the number behind a label, where these two words are the line
abbrev pub labelled : List ℕ → List (List ℕ) → Option ℕ
labelled label (word ∷ number ∷ []) = if bytes_eq word label then number_of number else None
labelled label _ = None

-- the words of the line at an index
abbrev pub words_at : List (List ℕ) → ℕ → List (List ℕ)
words_at lines k = words_of (line_at lines k)

-- what the second and the third line say
abbrev pub height_of : List (List ℕ) → Option ℕ
height_of lines = labelled (codes "height") (words_at lines 1)

abbrev pub width_of : List (List ℕ) → Option ℕ
width_of lines = labelled (codes "width") (words_at lines 2)

-- the first four lines are a header with that height and width
pub record IsHeader (lines : List (List ℕ)) (height width : ℕ) : Type 0 where
  pub title : is_title (words_at lines 0) ≡ true
  pub high : height_of lines ≡ Some height
  pub wide : width_of lines ≡ Some width
  pub marker : is_marker (words_at lines 3) ≡ true

-- and a map may have that size
pub record HasSize (lines : List (List ℕ)) (size : Extent) : Type 0 where
  pub header : IsHeader lines size.height size.width
  pub lawful : IsSize size.width size.height

-- the lines are those of the map: a header of its size, its rows, and blank lines at most
pub record AreMapLines (lines : List (List ℕ)) (grid : Chart) : Type 0 where
  pub size : HasSize lines grid.size
  pub tail : List (List ℕ)
  pub rows : BeginsWithRows grid (drop 4 lines) tail
  pub blank : list_all is_blank_line tail ≡ true

-- the text is one of the map
abbrev pub IsMapText : List ℕ → Chart → Type 0
IsMapText text grid = AreMapLines (lines_of text) grid
