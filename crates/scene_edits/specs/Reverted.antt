-- What taking changes back changes in its turn, and the memory for it.
use Rattle.std.specs.Prelude.{◌≡◌, ℕ, ◌+◌, ◌*◌, ◌≤◌, ◌⊎◌, Option, Some, IsSomeAnd, List, [], ◌∷◌, length, slice_get}
use Rattle.grid_cells.specs.Cell.{Point}
use Rattle.grid_cells.specs.Grid.{Chart}
use Rattle.plan_table.specs.Plans.{Table, row_of}
use Rattle.plan_table.specs.Route.{route_in}
use Rattle.plan_table.specs.declared.plans.Row.{Row}
use Rattle.plan_table.specs.declared.tracks.Mode.{Mode}
use Rattle.scene_edits.specs.Scene.{SceneState}
use Rattle.scene_edits.specs.Since.{IsSince}
use Rattle.scene_edits.specs.Board.{room_left}
use Rattle.scene_edits.specs.declared.scenes.TheConstants.{MOST_AGENTS}
use Rattle.scene_edits.specs.declared.changes.Change.{Change}
use Rattle.scene_edits.specs.declared.changes.Change.TheVariants.{Added, Dropped, Aimed, Moved, Flipped, Same}

-- an agent that comes back with a row: it is added where its path begins, and its path follows
pub record IsReturn (mode : Mode) (agent : ℕ) (row : Row) (turn : List Change) : Type 0 where
  pub start : Point
  pub since : Option ℕ
  pub begins : slice_get row.plan 0 ≡ Some start
  pub first : IsSince (route_in mode (record row { plan = start ∷ [] })) (route_in mode row) since
  pub told : turn ≡ Added agent ∷ Moved agent (start ∷ []) since ∷ []

-- the map has a flag for each of its cells
abbrev pub IsWhole : Chart → Type 0
IsWhole grid = length grid.flags ≡ grid.size.width * grid.size.height

-- the changes of taking a change back in the scene after it
abbrev pub IsTurn : SceneState → Change → List Change → Type 0
IsTurn scene (Added agent) turn = IsSomeAnd (row_of scene.rows agent) (λ row. turn ≡ Dropped agent row ∷ [])
IsTurn scene (Dropped agent row) turn = IsReturn scene.mode agent row turn
IsTurn scene (Aimed agent goal) turn = IsSomeAnd (row_of scene.rows agent) (λ row. turn ≡ Aimed agent row.goal ∷ [])
IsTurn scene (Moved agent plan since) turn = IsSomeAnd (row_of scene.rows agent) (λ row. turn ≡ Moved agent row.plan since ∷ [])
IsTurn scene (Flipped cell) turn = IsWhole scene.grid × (turn ≡ Flipped cell ∷ [])
IsTurn scene (Same cell) turn = turn ≡ []

-- the table can take in the rows of any fleet and those that come back, where some do
pub record IsSpare (changes : List Change) (table : Table) : Type 0 where
  pub empty : table.rows ≡ []
  pub room : (room_left changes ≡ 0) ⊎ (MOST_AGENTS + room_left changes ≤ table.room)
