-- How many rows the first four lines of a text announce (MovingAI grid benchmarks, map format).
use Rattle.std.specs.Prelude.{ℕ, Bool, true, false, Option, Some, None, List, nat_lt, if◌then◌else◌}
use Rattle.grid_cells.specs.declared.sizes.TheConstants.{MOST_SIDE}
use Rattle.bench_reader.specs.MapText.{is_marker, words_at, height_of, width_of}

-- the height, where the marker is there, the lines tell a height and a width, and a map may have that height
abbrev pub announced : Bool → Option ℕ → Option ℕ → ℕ
announced true (Some height) (Some width) = if nat_lt MOST_SIDE height then 0 else height
announced true (Some height) None = 0
announced true None width = 0
announced false height width = 0

-- by lines 2 to 4 alone, whatever line 1 says
abbrev pub rows_announced : List (List ℕ) → ℕ
rows_announced lines = announced (is_marker (words_at lines 3)) (height_of lines) (width_of lines)
