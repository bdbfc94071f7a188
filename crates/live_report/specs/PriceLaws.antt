-- A law of books of prices (a consequence of the definitions).
use Rattle.std.specs.Prelude.{◌≡◌, ℕ}
use Rattle.grid_cells.specs.Grid.{Chart}
use Rattle.live_report.specs.Prices.{Rows, Prices, AreOfRows}

-- books of rows are books of any rows that are the same for each agent
abbrev pub SameRowsSameBooks : Type 0
SameRowsSameBooks = (grid : Chart) (rows other : Rows) (books : Prices) → ((agent : ℕ) → rows agent ≡ other agent) → AreOfRows grid rows books → AreOfRows grid other books
