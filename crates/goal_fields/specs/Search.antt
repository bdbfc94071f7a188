-- A breadth-first search from the goal, and what holds of it.
use Rattle.std.specs.Prelude.{◌≡◌, ℕ, ◌+◌, ◌≤◌, ◌<◌, List, length, sum_by, slice_index, slice_index_or}
use Rattle.grid_cells.specs.Cell.{Point, IsAdjacent}
use Rattle.grid_cells.specs.Size.{IsSize, Holds}
use Rattle.grid_cells.specs.Grid.{Chart, IsOpen, flag_index}
use Rattle.grid_cells.specs.declared.sizes.TheConstants.{MOST_CELLS}
use Rattle.grid_cells.specs.Walks.{Walk, IsDistance}
use Rattle.cell_queue.specs.Queue.{area}
use Rattle.goal_fields.specs.declared.search.Search.{Search}
use Rattle.goal_fields.specs.Marks.{IsWhole, mark_at, far, blank, distance_of}

-- the cell at a place of the queue
abbrev pub slot : List Point → Point → ℕ → Point
slot queue goal i = slice_index_or queue i goal

-- the search has come so far: the cells of the queue up to `tail` are marked, those up to `head` are done
pub record IsSearch (grid : Chart) (goal : Point) (marks : List ℕ) (queue : List Point) (head tail : ℕ) : Type 0 where
  pub sized : IsSize grid.size.width grid.size.height
  pub goal_held : Holds grid.size goal
  pub whole : IsWhole grid
  pub one_mark_each : length marks ≡ area grid.size
  pub one_slot_each : length queue ≡ area grid.size
  pub ordered : head ≤ tail
  pub counted : tail + sum_by blank marks ≡ area grid.size
  pub inside : (i : ℕ) → i < tail → IsOpen grid (slot queue goal i)
  pub small : (i : ℕ) → i < tail → mark_at grid.size marks (slot queue goal i) ≤ i
  pub sorted : (i j : ℕ) → i ≤ j → j < tail → mark_at grid.size marks (slot queue goal i) ≤ mark_at grid.size marks (slot queue goal j)
  pub near : (j : ℕ) → j < tail → head < tail → mark_at grid.size marks (slot queue goal j) ≤ mark_at grid.size marks (slot queue goal head) + 1
  pub placed : (cell : Point) → Holds grid.size cell → mark_at grid.size marks cell < far → (i : ℕ) × (i < tail) × (slot queue goal i ≡ cell)
  pub covered : (i : ℕ) → i < head → (cell : Point) → IsAdjacent (slot queue goal i) cell → IsOpen grid cell → mark_at grid.size marks cell ≤ mark_at grid.size marks (slot queue goal i) + 1
  pub walks : (cell : Point) → Holds grid.size cell → mark_at grid.size marks cell < far → Walk grid (mark_at grid.size marks cell) cell goal
  pub begun : IsOpen grid goal → mark_at grid.size marks goal ≡ 0
  pub bounded : (cell : Point) → Holds grid.size cell → mark_at grid.size marks cell ≤ far

-- a search as it is
abbrev pub IsSearching : Search → Type 0
IsSearching s = IsSearch s.grid s.goal s.marks.items s.queue.items s.head s.tail

-- the cell whose turn it is
abbrev pub front_of : Search → Point
front_of s = slot s.queue.items s.goal s.head

-- the mark of a cell in a search
abbrev pub mark_of : Search → Point → ℕ
mark_of s cell = mark_at s.grid.size s.marks.items cell

-- the cell has at most that mark, if it is open
abbrev pub IsReached : Search → ℕ → Point → Type 0
IsReached s number cell = IsOpen s.grid cell → mark_of s cell ≤ number

-- the neighbours of the cell whose turn it is are being marked with `number`; that cell stands at `at` in a list of all cells
pub record IsMarking (s : Search) (front : Point) (at number : ℕ) : Type 0 where
  pub searching : IsSearching s
  pub at_work : s.head < s.tail
  pub turn : front_of s ≡ front
  pub place : at ≡ flag_index s.grid.size front
  pub small : at < MOST_CELLS
  pub next : number ≡ mark_of s front + 1

-- the search goes on over the same map, and what it has marked stays
pub record SearchesOn (old new : Search) : Type 0 where
  pub grid : new.grid ≡ old.grid
  pub goal : new.goal ≡ old.goal
  pub head : new.head ≡ old.head
  pub tail : old.tail ≤ new.tail
  pub slots : (i : ℕ) → i < old.tail → slot new.queue.items new.goal i ≡ slot old.queue.items old.goal i
  pub marks : (cell : Point) → Holds old.grid.size cell → mark_of old cell < far → mark_of new cell ≡ mark_of old cell

-- the search is over the same map
pub record KeepsMap (old new : Search) : Type 0 where
  pub grid : new.grid ≡ old.grid
  pub goal : new.goal ≡ old.goal

-- the goal is on the map, and there is room for each cell
pub record HasSearchRoom (s : Search) : Type 0 where
  pub sized : IsSize s.grid.size.width s.grid.size.height
  pub goal_held : Holds s.grid.size s.goal
  pub whole : IsWhole s.grid
  pub one_mark_each : length s.marks.items ≡ area s.grid.size
  pub one_slot_each : length s.queue.items ≡ area s.grid.size

-- nothing is found yet
abbrev pub IsBlank : Search → Type 0
IsBlank s = (k : ℕ) → k < length s.marks.items → slice_index s.marks.items k ≡ far

-- there is room, and the marks are the distances
pub record IsFound (s : Search) : Type 0 where
  pub room : HasSearchRoom s
  pub right : (cell : Point) → Holds s.grid.size cell → IsDistance s.grid cell s.goal (distance_of (mark_of s cell))
  pub bounded : (cell : Point) → Holds s.grid.size cell → mark_of s cell ≤ far
