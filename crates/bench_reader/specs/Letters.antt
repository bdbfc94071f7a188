-- The letters of a map and the rows that they make.
use Rattle.std.specs.Prelude.{◌≡◌, ℕ, Bool, true, false, ◌||◌, ◌==◌, Option, Some, None, List, ◌++◌, length, map, flat_map, All, if◌then◌else◌}
use Rattle.grid_cells.specs.Grid.{Chart}
use Rattle.bench_reader.specs.Lines.{row_of}

-- what a letter says of its cell: `.`, `G` and `S` are open, `@`, `O`, `T` and `W` are closed, no other byte is a letter
abbrev pub state_of : ℕ → Option Bool
state_of letter =
    if letter == 46 || letter == 71 || letter == 83 then Some true
    else (if letter == 64 || letter == 79 || letter == 84 || letter == 87 then Some false else None)

-- the lines are rows of that many letters, which say of each cell, row by row, whether it is open
pub record AreRows (width : ℕ) (rows : List (List ℕ)) (flags : List Bool) : Type 0 where
  pub widths : All (λ row. length (row_of row) ≡ width) rows
  pub letters : map state_of (flat_map row_of rows) ≡ map Some flags

-- the lines begin with the rows of the grid, and the tail is left
pub record BeginsWithRows (grid : Chart) (body tail : List (List ℕ)) : Type 0 where
  pub rows : List (List ℕ)
  pub split : body ≡ rows ++ tail
  pub high : length rows ≡ grid.size.height
  pub good : AreRows grid.size.width rows grid.flags
