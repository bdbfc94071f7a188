-- A law of change counts (a consequence of the definitions).
use Rattle.std.specs.Prelude.{◌≡◌, ℕ}
use Rattle.grid_cells.specs.Cell.{Point}
use Rattle.grid_cells.specs.Grid.{Chart}
use Rattle.goal_fields.specs.Changes.{IsChangeCount}

-- two maps and a goal have one change count
abbrev pub OneChangeCount : Type 0
OneChangeCount = (before after : Chart) (goal : Point) (one other : ℕ) → IsChangeCount before after goal one → IsChangeCount before after goal other → one ≡ other
