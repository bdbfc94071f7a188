-- What holds between two takings of a repair (Koenig, Likhachev, Furcy 2004, with heuristic 0).
use Rattle.std.specs.Prelude.{◌≡◌, ◌≢◌, ℕ, ◌+◌, ◌≤◌, ◌<◌, ◌==◌, nat_lt, if◌then◌else◌, Option, Some, None}
use Rattle.grid_cells.specs.Cell.{Point, IsAdjacent}
use Rattle.grid_cells.specs.Size.{Holds}
use Rattle.grid_cells.specs.Grid.{Chart, IsOpen}
use Rattle.goal_fields.specs.Marks.{far}

-- the number meets the equation of rhs at the cell: none where the cell is closed, 0 at an open goal, and else one more
-- than the least g of the open neighbours
pub record IsRhs (grid : Chart) (goal : Point) (g : Point → ℕ) (cell : Point) (r : ℕ) : Type 0 where
  pub bounded : r ≤ far
  pub closed : (IsOpen grid cell → ⊥) → r ≡ far
  pub at_goal : IsOpen grid cell → cell ≡ goal → r ≡ 0
  pub upper : IsOpen grid cell → cell ≢ goal → (next : Point) → IsAdjacent cell next → IsOpen grid next → r ≤ g next + 1
  pub lower : IsOpen grid cell → cell ≢ goal → r < far → (next : Point) × IsAdjacent cell next × IsOpen grid next × (r ≡ g next + 1)

-- the key of a cell in the queue: none where g and rhs are equal
abbrev pub key_for : ℕ → ℕ → Option ℕ
key_for g r = if g == r then None else Some (if nat_lt g r then g else r)

-- what one cell adds to the change count
abbrev pub change : ℕ → ℕ → ℕ
change old new = (if nat_lt old new then 1 else 0) + (if new == far then 0 else if old == new then 0 else 1)

-- between two takings: `d` are the distances before the repair, `floor` is the last key that was taken
pub record IsRepairing (grid : Chart) (goal : Point) (d g r : Point → ℕ) (floor : ℕ) : Type 0 where
  pub equation : (c : Point) → Holds grid.size c → IsRhs grid goal g c (r c)
  pub bounded : (c : Point) → Holds grid.size c → g c ≤ far
  pub given : (c : Point) → Holds grid.size c → d c ≤ far
  pub low : (c : Point) → Holds grid.size c → g c ≢ r c → (floor ≤ g c) × (floor ≤ r c)
  pub raised : (c : Point) → Holds grid.size c → g c ≡ far → d c < far → (d c ≤ floor) × (d c < r c)
  pub settled : (c : Point) → Holds grid.size c → g c < far → g c ≢ d c → (r c ≡ g c) × (g c ≤ floor)

-- `key` is a least key, that of the cell
pub record IsTaken (grid : Chart) (g r : Point → ℕ) (cell : Point) (key : ℕ) : Type 0 where
  pub held : Holds grid.size cell
  pub least : (c : Point) → Holds grid.size c → g c ≢ r c → (key ≤ g c) × (key ≤ r c)

-- the second g is the first but for one cell
pub record IsWrite (grid : Chart) (g g' : Point → ℕ) (cell : Point) (value : ℕ) : Type 0 where
  pub here : g' cell ≡ value
  pub elsewhere : (c : Point) → Holds grid.size c → c ≢ cell → g' c ≡ g c
