-- Queues of cells, each under a key.
use Rattle.std.specs.Prelude.{◌≡◌, ℕ, ◌+◌, ◌-◌, ◌*◌, ◌^◌, ◌≤◌, min, Option, Some, None, IsSome, List, slice_index_or, slice_set, replicate}
use Rattle.grid_cells.specs.Cell.{Point}
use Rattle.grid_cells.specs.Size.{Extent, Holds}
use Rattle.grid_cells.specs.Grid.{flag_index}

-- how many cells a map has
abbrev pub area : Extent → ℕ
area size = size.width * size.height

-- a finite map from the cells of a map to keys: for each cell, row by row, its key if it is in the queue; and the cells
-- taken since the last reset, and in all
pub record Queue : Type 0 where
  pub size : Extent
  pub keys : List (Option ℕ)
  pub taken : ℕ
  pub total : ℕ

-- a queue without cells
abbrev pub empty_queue : Extent → Queue
empty_queue size = record { size = size; keys = replicate (area size) None; taken = 0; total = 0 }

-- the cell's key, none where it is not in the queue; the map has the cell
abbrev pub key_at : Queue → Point → Option ℕ
key_at queue cell = slice_index_or queue.keys (flag_index queue.size cell) None

-- the map has the cell, and it is in the queue
abbrev pub HasCell : Queue → Point → Type 0
HasCell queue cell = Holds queue.size cell × IsSome (key_at queue cell)

-- the queue with another key for one cell, or without it
abbrev pub with_key : Queue → Point → Option ℕ → Queue
with_key queue cell key = record queue { keys = slice_set queue.keys (flag_index queue.size cell) key }

-- a counter after one more cell was taken, held at the greatest u64
abbrev pub one_more : ℕ → ℕ
one_more taken = min (taken + 1) (2 ^ 64 - 1)

-- no cell of the queue has a key below this one
abbrev pub IsLeastKey : Queue → ℕ → Type 0
IsLeastKey queue key = (cell : Point) (other : ℕ) → Holds queue.size cell → key_at queue cell ≡ Some other → key ≤ other

-- no cell is in the queue
abbrev pub IsEmpty : Queue → Type 0
IsEmpty queue = (cell : Point) → Holds queue.size cell → key_at queue cell ≡ None
