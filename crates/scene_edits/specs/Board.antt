-- The parts of a scene while it is edited.
use Rattle.std.specs.Prelude.{◌≡◌, ℕ, ◌+◌, ◌-◌, ◌≤◌, Result, Ok, Err, List, fold}
use Rattle.grid_cells.specs.Cell.{Point}
use Rattle.plan_table.specs.Path.{IsWalkable}
use Rattle.scene_edits.specs.Scene.{SceneState}
use Rattle.scene_edits.specs.Paths.{path_of}
use Rattle.scene_edits.specs.Edited.{with_changed}
use Rattle.scene_edits.specs.Changes.{IsMove}
use Rattle.scene_edits.specs.declared.boards.Board.{Board}
use Rattle.scene_edits.specs.declared.changes.Change.{Change}
use Rattle.scene_edits.specs.declared.changes.Change.TheVariants.{Added, Dropped}
use Rattle.scene_edits.specs.declared.edits.ApplyFault.{ApplyFault}

-- the scene of the parts
abbrev pub scene_of : Board → SceneState
scene_of board = record { grid = board.grid; rows = board.plans.rows; mode = board.mode }

-- the room that a table has left after a change, at least
abbrev pub room_after : ℕ → Change → ℕ
room_after room (Added agent) = room - 1
room_after room (Dropped agent row) = room + 1
room_after room other = room

-- the room that changes have left
abbrev pub room_left : List Change → ℕ
room_left changes = fold room_after 0 changes

-- no room is lost but for a row that was added
abbrev pub KeepsRoom : ℕ → Result Change ApplyFault → ℕ → Type 0
KeepsRoom old (Ok change) new = room_after old change ≤ new
KeepsRoom old (Err fault) new = old ≤ new

-- the agent's plan is the path of the cells, and the change tells its move
pub record FollowsPath (old : SceneState) (agent : ℕ) (cells : List Point) (change : Change) (new : SceneState) : Type 0 where
  pub walkable : IsWalkable cells
  pub edited : new ≡ record old { rows = with_changed old.rows agent (λ row. record row { plan = path_of cells }) }
  pub moves : IsMove old new agent change
