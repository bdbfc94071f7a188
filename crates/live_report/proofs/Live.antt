-- What a row of a scene that is found by its agent, or at its rank, is known to be.
use Rattle.std.proofs.Common.{◌≡◌, ℕ, Some, List, sym, ap, ◌∙◌}
use Rattle.std.specs.List.{slice_get}
use Rattle.grid_cells.specs.Size.{Holds}
use Rattle.plan_table.specs.Plans.{row_of}
use Rattle.plan_table.specs.declared.plans.Row.{Row}
use Rattle.plan_table.proofs.Fleets.{row_here}
use Rattle.scene_edits.specs.Scene.{SceneState, IsScene}

-- its goal is on the map
pub goal_inside : (scene : SceneState) → IsScene scene → (rows : List (ℕ × Row)) → rows ≡ scene.rows → (agent : ℕ) (row : Row) → row_of rows agent ≡ Some row → Holds scene.grid.size row.goal
goal_inside scene is rows same agent row live = (is.on_map agent row (ap (λ (r : List (ℕ × Row)). row_of r agent) (sym same) ∙ live)).goal

pub goal_inside_at : (scene : SceneState) → IsScene scene → (rank agent : ℕ) (row : Row) → slice_get scene.rows rank ≡ Some (agent, row) → Holds scene.grid.size row.goal
goal_inside_at scene is rank agent row there = (is.on_map agent row (row_here scene.rows is.by_agent rank agent row there).0).goal
