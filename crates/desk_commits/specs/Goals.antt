-- What is asked of an agent's goal (this project's choice of the question).
use Rattle.std.specs.Prelude.{◌≡◌, ℕ, Some}
use Rattle.grid_cells.specs.Cell.{Point}
use Rattle.grid_cells.specs.Size.{Holds}
use Rattle.plan_table.specs.Plans.{row_of}
use Rattle.plan_table.specs.declared.plans.Row.{Row}
use Rattle.scene_edits.specs.Scene.{SceneState}

-- the goal of a live agent, which is asked of a cell of the map
pub record IsAsked (scene : SceneState) (agent : ℕ) (cell goal : Point) : Type 0 where
  pub row : Row
  pub live : row_of scene.rows agent ≡ Some row
  pub aims : row.goal ≡ goal
  pub inside : Holds scene.grid.size cell
