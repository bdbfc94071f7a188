-- The scene of the first tasks of a scenario.
use Rattle.std.specs.Prelude.{◌≡◌, ℕ, suc, ◌<◌, ◌≤◌, Result, Ok, Err, Some, List, [], ◌∷◌, All, length, take, slice_get}
use Rattle.grid_cells.specs.Size.{Extent, Holds}
use Rattle.grid_cells.specs.Grid.{Chart}
use Rattle.bench_reader.specs.declared.tasks.Task.{Task}
use Rattle.plan_table.specs.declared.plans.Row.{Row}
use Rattle.plan_table.specs.declared.tracks.Mode.TheVariants.{Stay}
use Rattle.scene_edits.specs.Scene.{SceneState}
use Rattle.scene_edits.specs.declared.scenes.TheConstants.{MOST_AGENTS}
use Rattle.scene_edits.specs.declared.tasks.TaskFault.{TaskFault}
use Rattle.scene_edits.specs.declared.tasks.TaskFault.TheVariants.{TooFewTasks, TooManyAgents, OutOfMap, OutOfMemory}

-- an agent for each task, from that number on: it rests at the task's start
abbrev pub rows_from : ℕ → List Task → List (ℕ × Row)
rows_from agent [] = []
rows_from agent (task ∷ later) = (agent, record { goal = task.goal; plan = task.start ∷ [] }) ∷ rows_from (suc agent) later

-- agents from 0 on with the tasks, in mode Stay
abbrev pub scene_with : Chart → List Task → SceneState
scene_with grid tasks = record { grid = grid; rows = rows_from 0 tasks; mode = Stay }

-- the map has both cells of the task
abbrev pub IsTaskOn : Extent → Task → Type 0
IsTaskOn size task = Holds size task.start × Holds size task.goal

-- the first task with a cell that isn't on the map, counted from 0
pub record IsFirstOutside (size : Extent) (tasks : List Task) (at : ℕ) : Type 0 where
  pub task : Task
  pub there : slice_get tasks at ≡ Some task
  pub outside : IsTaskOn size task → ⊥
  pub before : All (IsTaskOn size) (take at tasks)

-- what is answered to a scene of the first `many` tasks
abbrev pub TasksAnswered : Chart → List Task → ℕ → Result SceneState (TaskFault × Chart) → Type 0
TasksAnswered grid tasks many (Ok scene) =
    (many ≤ length tasks) × (many ≤ MOST_AGENTS) × All (IsTaskOn grid.size) (take many tasks) × (scene ≡ scene_with grid (take many tasks))
TasksAnswered grid tasks many (Err (TooFewTasks have, back)) = (have ≡ length tasks) × (have < many) × (back ≡ grid)
TasksAnswered grid tasks many (Err (TooManyAgents, back)) = (many ≤ length tasks) × (MOST_AGENTS < many) × (back ≡ grid)
TasksAnswered grid tasks many (Err (OutOfMap task, back)) =
    (many ≤ length tasks) × (many ≤ MOST_AGENTS) × IsFirstOutside grid.size (take many tasks) task × (back ≡ grid)
TasksAnswered grid tasks many (Err (OutOfMemory, back)) = back ≡ grid
