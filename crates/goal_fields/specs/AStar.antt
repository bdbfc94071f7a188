-- A* between two cells (Hart, Nilsson, Raphael 1968), whose estimate is the steps that lie between two cells where nothing is closed.
-- It goes from the goal towards the start. A step comes one nearer to the start or goes one away from it, so that the steps of a walk
-- are the estimate at the goal and twice the steps away: cells wait in two lists, those for the walks with as many steps away as now, and those for one more.
-- That a cell is known to be done by a stamp, which is above those of earlier searches, is this project's choice.
use Rattle.std.specs.Prelude.{◌≡◌, ℕ, ◌+◌, ◌*◌, ◌<◌, ◌≤◌, ◌⊎◌, List, Contains, All, length, sum_by, nat_lt, if◌then◌else◌}
use Rattle.grid_cells.specs.Cell.{Point, IsAdjacent, steps_between}
use Rattle.grid_cells.specs.Size.{Extent, IsSize, Holds}
use Rattle.grid_cells.specs.Grid.{Chart, IsOpen}
use Rattle.grid_cells.specs.Walks.{Walk}
use Rattle.cell_queue.specs.Queue.{area}
use Rattle.goal_fields.specs.Marks.{IsWhole, mark_at}
use Rattle.goal_fields.specs.declared.frontier.TheConstants.{MOST_BASE}
use Rattle.goal_fields.specs.declared.frontier.Ends.{Ends}
use Rattle.goal_fields.specs.declared.frontier.Frontier.{Frontier}

-- a walk between the cell and the goal that has so many steps away from the start, gone from the goal to the cell
pub record HasWalk (grid : Chart) (ends : Ends) (away : ℕ) (cell : Point) : Type 0 where
  pub steps : ℕ
  pub walk : Walk grid steps cell ends.goal
  pub length_is : steps + steps_between cell ends.start ≡ steps_between ends.goal ends.start + 2 * away

-- the cell is done or waits, for walks with at most so many steps away
abbrev pub IsMetWithin : Extent → List ℕ → ℕ → ℕ → List Point → List Point → ℕ → Point → Type 0
IsMetWithin size stamps base away now next most cell =
    ((base ≤ mark_at size stamps cell) × (mark_at size stamps cell ≤ base + most))
    ⊎ (((away ≤ most) × Contains now cell) ⊎ ((away + 1 ≤ most) × Contains next cell))

-- the stamps of the cells are at most those of a search that has come to so many steps away
pub record IsStamped (grid : Chart) (stamps : List ℕ) (base away : ℕ) : Type 0 where
  pub sized : IsSize grid.size.width grid.size.height
  pub whole : IsWhole grid
  pub one_stamp_each : length stamps ≡ area grid.size
  pub bounded : (cell : Point) → Holds grid.size cell → mark_at grid.size stamps cell ≤ base + away

-- the search has come to so many steps away: these cells wait, the start is not done, and what lies beside a cell that is done is met
pub record IsSeeking (grid : Chart) (ends : Ends) (stamps : List ℕ) (base away : ℕ) (now next : List Point) : Type 0 where
  pub stamped : IsStamped grid stamps base away
  pub start_held : Holds grid.size ends.start
  pub goal_held : Holds grid.size ends.goal
  pub start_waits : mark_at grid.size stamps ends.start < base
  pub walks_now : All (HasWalk grid ends away) now
  pub walks_next : All (HasWalk grid ends (away + 1)) next
  pub begun : IsOpen grid ends.goal → IsMetWithin grid.size stamps base away now next 0 ends.goal
  pub covered : (cell : Point) (done : ℕ) → Holds grid.size cell → mark_at grid.size stamps cell ≡ base + done →
      (beside : Point) (most : ℕ) → IsAdjacent cell beside → IsOpen grid beside →
      2 * most + steps_between cell ends.start ≡ 2 * done + steps_between beside ends.start + 1 →
      IsMetWithin grid.size stamps base away now next most beside

-- the search of a frontier, where these cells wait for walks with as many steps away as now
abbrev pub IsSeekingFrom : Frontier → Ends → List Point → Type 0
IsSeekingFrom s ends now = IsSeeking s.grid ends s.stamps.items s.base s.away now s.next.items

-- 1 at the stamp of an earlier search
abbrev pub left_undone : ℕ → ℕ → ℕ
left_undone base stamp = if nat_lt stamp base then 1 else 0

-- the cells that wait, those for one more step away counted more
abbrev pub waiting : Frontier → ℕ
waiting s = 3 * length s.next.items + 2 * length s.now.items

-- what is left to do: it falls with each turn of a search
abbrev pub work_left : Frontier → ℕ
work_left s = 20 * sum_by (left_undone s.base) s.stamps.items + waiting s

-- a search has as many steps away as it has had turns, at most
abbrev pub most_work : Extent → ℕ
most_work size = 20 * area size + 2

-- the frontier at rest, between two searches
pub record IsAtEase (s : Frontier) : Type 0 where
  pub stamped : IsStamped s.grid s.stamps.items s.base s.away
  pub few : s.away ≤ most_work s.grid.size
  pub low : s.base ≤ MOST_BASE

-- more cells wait, and nothing else has changed
pub record GathersCells (old new : Frontier) : Type 0 where
  pub grid : new.grid ≡ old.grid
  pub stamps : new.stamps ≡ old.stamps
  pub base : new.base ≡ old.base
  pub away : new.away ≡ old.away
  pub now : (cell : Point) → Contains old.now.items cell → Contains new.now.items cell
  pub next : (cell : Point) → Contains old.next.items cell → Contains new.next.items cell

-- the search stays over its map with as many steps away, and its stamps are right
pub record KeepsLevel (old new : Frontier) : Type 0 where
  pub grid : new.grid ≡ old.grid
  pub base : new.base ≡ old.base
  pub away : new.away ≡ old.away
  pub stamped : IsStamped new.grid new.stamps.items new.base new.away

-- the cell, if it is open, is met for each number of steps away that a walk through the front to it has at least
abbrev pub IsMetFrom : Frontier → Ends → Point → Point → Type 0
IsMetFrom s ends front cell = IsOpen s.grid cell → (most : ℕ) →
    2 * most + steps_between front ends.start ≡ 2 * s.away + steps_between cell ends.start + 1 →
    IsMetWithin s.grid.size s.stamps.items s.base s.away s.now.items s.next.items most cell
