-- The state of Lifelong Planning A* (Koenig, Likhachev, Furcy 2004), and what holds of it.
use Rattle.std.specs.Prelude.{◌≡◌, ◌⊎◌, ℕ, ◌+◌, ◌<◌, None, List, [], ◌∷◌, length, Contains}
use Rattle.grid_cells.specs.Cell.{Point, IsAdjacent}
use Rattle.grid_cells.specs.Size.{IsSize, Holds}
use Rattle.grid_cells.specs.Grid.{Chart, IsOpen}
use Rattle.cell_queue.specs.Queue.{area, key_at, IsEmpty}
use Rattle.goal_fields.specs.declared.lifelong.Lifelong.{Lifelong}
use Rattle.goal_fields.specs.Marks.{IsWhole, mark_at, far}
use Rattle.goal_fields.specs.Repair.{IsRhs, IsRepairing, change, key_for}

-- a cell's g
abbrev pub g_of : Lifelong → Point → ℕ
g_of s cell = mark_at s.grid.size s.g.items cell

-- there is room for each cell
pub record IsRoomy (s : Lifelong) : Type 0 where
  pub sized : IsSize s.grid.size.width s.grid.size.height
  pub goal_held : Holds s.grid.size s.goal
  pub whole : IsWhole s.grid
  pub one_g_each : length s.g.items ≡ area s.grid.size
  pub queue : s.queue.size ≡ s.grid.size
  pub one_key_each : length s.queue.keys ≡ area s.grid.size

-- the cell is in the queue as its rhs, the number that meets its equation, wants it
pub record IsGood (s : Lifelong) (cell : Point) : Type 0 where
  pub rhs : ℕ
  pub equation : IsRhs s.grid s.goal (g_of s) cell rhs
  pub queued : key_at s.queue cell ≡ key_for (g_of s cell) rhs

-- the cell is in the queue as before
abbrev pub KeepsKey : Lifelong → Lifelong → Point → Type 0
KeepsKey old new cell = key_at new.queue cell ≡ key_at old.queue cell

-- grid, goal, g and counters are the same
pub record IsSameBut (old new : Lifelong) : Type 0 where
  pub grid : new.grid ≡ old.grid
  pub goal : new.goal ≡ old.goal
  pub g : new.g.items ≡ old.g.items
  pub taken : new.queue.taken ≡ old.queue.taken
  pub total : new.queue.total ≡ old.queue.total

-- the change count between the distances before and the g of now, which the queue has counted
abbrev pub count_over : List ℕ → List ℕ → ℕ
count_over [] news = 0
count_over (old ∷ olds) [] = 0
count_over (old ∷ olds) (new ∷ news) = change old new + count_over olds news

-- between two takings: `d` are the distances before the repair
pub record IsInRepair (d : List ℕ) (s : Lifelong) (floor : ℕ) : Type 0 where
  pub roomy : IsRoomy s
  pub one_each : length d ≡ area s.grid.size
  pub rhs : Point → ℕ
  pub repairing : IsRepairing s.grid s.goal (mark_at s.grid.size d) (g_of s) rhs floor
  pub queued : (c : Point) → Holds s.grid.size c → key_at s.queue c ≡ key_for (g_of s c) (rhs c)
  pub counted : s.queue.taken ≡ count_over d s.g.items

-- between two repairs: g meets the equations of rhs, and the queue is empty
pub record IsSettled (s : Lifelong) : Type 0 where
  pub roomy : IsRoomy s
  pub consistent : (c : Point) → Holds s.grid.size c → IsRhs s.grid s.goal (g_of s) c (g_of s c)
  pub empty : IsEmpty s.queue

-- the distances are those on the map: g meets its equations of rhs
abbrev pub IsConsistent : Chart → Lifelong → Type 0
IsConsistent grid s = (c : Point) → Holds grid.size c → IsRhs grid s.goal (mark_at grid.size s.g.items) c (mark_at grid.size s.g.items c)

-- the cell isn't queued, and none of these cells has closed on its way; `old` is the state in which the repair began
pub record Waits (old now : Lifelong) (done : List Point) (cell : Point) : Type 0 where
  pub unqueued : key_at now.queue cell ≡ None
  pub on_way : (v : Point) → Contains done v → Holds old.grid.size v → IsAdjacent cell v → g_of old v < far → g_of old cell ≡ g_of old v + 1 → IsOpen old.grid v

-- a repair has begun: the cells that are done are good, and each other one is good or waits
pub record IsTouched (old now : Lifelong) (done : List Point) : Type 0 where
  pub roomy : IsRoomy now
  pub grid : now.grid ≡ old.grid
  pub goal : now.goal ≡ old.goal
  pub g : now.g.items ≡ old.g.items
  pub taken : now.queue.taken ≡ 0
  pub total : now.queue.total ≡ old.queue.total
  pub here : (v : Point) → Contains done v → Holds old.grid.size v → IsGood now v
  pub each : (c : Point) → Holds old.grid.size c → IsGood now c ⊎ Waits old now done c

-- grid and goal are the same
pub record KeepsTarget (old new : Lifelong) : Type 0 where
  pub grid : new.grid ≡ old.grid
  pub goal : new.goal ≡ old.goal
