-- Scenes: a map, the goals and plans of a fleet on it, and what its agents do at the end of a path.
use Rattle.std.specs.Prelude.{◌≡◌, ℕ, ◌≤◌, Option, Some, List, [], All, IsSome, length, slice_get}
use Rattle.std.specs.Option.{option_map_or}
use Rattle.grid_cells.specs.Cell.{Point}
use Rattle.grid_cells.specs.Size.{Extent, Holds}
use Rattle.grid_cells.specs.Grid.{Chart}
use Rattle.plan_table.specs.Path.{IsPath}
use Rattle.plan_table.specs.Plans.{IsByAgent, row_of}
use Rattle.plan_table.specs.declared.plans.Row.{Row}
use Rattle.plan_table.specs.declared.tracks.Mode.{Mode}
use Rattle.scene_edits.specs.declared.scenes.TheConstants.{MOST_AGENTS}

-- a scene: its map, the row of each live agent in the order of the agents, and its mode
pub record SceneState : Type 0 where
  pub grid : Chart
  pub rows : List (ℕ × Row)
  pub mode : Mode

-- the map has each of the cells
abbrev pub AreIn : Extent → List Point → Type 0
AreIn size cells = All (Holds size) cells

-- a row on a map: a path on it, and a goal on it
pub record IsRowOn (size : Extent) (row : Row) : Type 0 where
  pub path : IsPath row.plan
  pub cells : AreIn size row.plan
  pub goal : Holds size row.goal

-- what holds of every scene
pub record IsScene (scene : SceneState) : Type 0 where
  pub by_agent : IsByAgent scene.rows
  pub few : length scene.rows ≤ MOST_AGENTS
  pub on_map : (agent : ℕ) (row : Row) → row_of scene.rows agent ≡ Some row → IsRowOn scene.grid.size row

-- the agent is live: it has a row
abbrev pub IsLive : SceneState → ℕ → Type 0
IsLive scene agent = IsSome (row_of scene.rows agent)

-- the agent's plan, and no cells where it isn't live
abbrev pub plan_of : SceneState → ℕ → List Point
plan_of scene agent = option_map_or (λ row. row.plan) (row_of scene.rows agent) []

-- where the agent's plan begins
abbrev pub start_of : SceneState → ℕ → Option Point
start_of scene agent = slice_get (plan_of scene agent) 0
