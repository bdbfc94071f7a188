-- A field between two repairs, and the room in which it is repaired.
use Rattle.std.specs.Prelude.{◌≡◌, ◌<◌, ◌^◌, ℕ, List, Option, Some, None, length}
use Rattle.grid_cells.specs.Cell.{Point}
use Rattle.grid_cells.specs.Size.{IsSize, Holds}
use Rattle.grid_cells.specs.Grid.{Chart}
use Rattle.cell_queue.specs.Queue.{area, IsEmpty}
use Rattle.goal_fields.specs.declared.lifelong.Lifelong.{Lifelong}
use Rattle.goal_fields.specs.Marks.{IsWhole, mark_at}
use Rattle.goal_fields.specs.Repair.{IsRhs}

-- there is one number for each cell of the map, and these meet the equations of rhs
pub record IsAtRest (grid : Chart) (goal : Point) (g : List ℕ) : Type 0 where
  pub sized : IsSize grid.size.width grid.size.height
  pub goal_held : Holds grid.size goal
  pub whole : IsWhole grid
  pub one_g_each : length g ≡ area grid.size
  pub consistent : (c : Point) → Holds grid.size c → IsRhs grid goal (mark_at grid.size g) c (mark_at grid.size g c)

-- the queue is empty, and has place for each cell of the map
pub record IsIdle (room : Lifelong) : Type 0 where
  pub queue : room.queue.size ≡ room.grid.size
  pub one_key_each : length room.queue.keys ≡ area room.grid.size
  pub empty : IsEmpty room.queue

-- a room on this map, between two repairs
pub record IsRoomOn (grid : Chart) (room : Lifelong) : Type 0 where
  pub map : room.grid ≡ grid
  pub wide : 0 < grid.size.width
  pub whole : IsWhole grid
  pub idle : IsIdle room
  pub counted : room.queue.total < 2 ^ 64

-- how many cells the room's queue has taken since it was made, 0 where there is no room
abbrev pub total_in : Option Lifelong → ℕ
total_in None = 0
total_in (Some room) = room.queue.total
