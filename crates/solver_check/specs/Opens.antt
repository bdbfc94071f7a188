-- The scene that a run opens: a map, a mode, and the agents of the first tasks of a scenario (this project's choice).
use Rattle.std.specs.Prelude.{◌≡◌, ◌⊎◌, ℕ, List, [], Option, Some, None, Ok, Err, option_map}
use Rattle.std.specs.Borrow.{Bor}
use Rattle.grid_cells.specs.Grid.{Chart}
use Rattle.plan_table.specs.declared.tracks.Mode.{Mode}
use Rattle.bench_reader.specs.Lines.{lines_of}
use Rattle.bench_reader.specs.MapText.{IsMapText}
use Rattle.bench_reader.specs.MapFaults.{IsMapFault}
use Rattle.bench_reader.specs.ScenText.{IsScenText}
use Rattle.bench_reader.specs.ScenFaults.{IsScenFault}
use Rattle.bench_reader.specs.declared.maps.MapFault.{MapFault}
use Rattle.bench_reader.specs.declared.scens.ScenFault.{ScenFault}
use Rattle.bench_reader.specs.declared.tasks.Task.{Task}
use Rattle.scene_edits.specs.Scene.{SceneState}
use Rattle.scene_edits.specs.Tasks.{TasksAnswered}
use Rattle.scene_edits.specs.declared.tasks.TaskFault.{TaskFault}
use Rattle.solver_check.specs.Faults.{as_told}
use Rattle.solver_check.specs.declared.faults.RunFault.{RunFault}
use Rattle.solver_check.specs.declared.faults.RunFault.TheVariants.{Map, Scen, Tasks}

-- the bytes of a text, where one is handed in
abbrev pub bytes_of : Option (Bor (List ℕ)) → Option (List ℕ)
bytes_of text = option_map (λ bytes. bytes.now) text

-- the scene of a map with no scenario: no agent is on it
pub record OpensBare (map : List ℕ) (mode : Mode) (scene : SceneState) : Type 0 where
  pub grid : Chart
  pub reads : IsMapText map grid
  pub is : scene ≡ record { grid = grid; rows = []; mode = mode }

-- the scene that the first tasks of a scenario make on a map, in that mode: agent i rests at the start of task i
pub record OpensWith (map scen : List ℕ) (agents : ℕ) (mode : Mode) (scene : SceneState) : Type 0 where
  pub grid : Chart
  pub tasks : List Task
  pub reads : IsMapText map grid
  pub lists : IsScenText grid.size scen tasks
  pub staying : SceneState
  pub answered : TasksAnswered grid tasks agents (Ok staying)
  pub is : scene ≡ record { grid = staying.grid; rows = staying.rows; mode = mode }

-- the scene of a map and, where one is given, a scenario
abbrev pub Opens : List ℕ → Option (List ℕ) → ℕ → Mode → SceneState → Type 0
Opens map None agents mode scene = OpensBare map mode scene
Opens map (Some scen) agents mode scene = OpensWith map scen agents mode scene

-- the map's first fault
pub record HasMapFault (map : List ℕ) (fault : RunFault) : Type 0 where
  pub why : MapFault
  pub first : IsMapFault (lines_of map) why
  pub told : fault ≡ as_told (Map why)

-- the map is read, and this is the scenario's first fault
pub record HasScenFault (map scen : List ℕ) (fault : RunFault) : Type 0 where
  pub grid : Chart
  pub why : ScenFault
  pub reads : IsMapText map grid
  pub first : IsScenFault grid.size (lines_of scen) why
  pub told : fault ≡ as_told (Scen why)

-- both are read, and the first tasks make no scene of that many agents
pub record HasTaskFault (map scen : List ℕ) (agents : ℕ) (fault : RunFault) : Type 0 where
  pub grid : Chart
  pub tasks : List Task
  pub why : TaskFault
  pub reads : IsMapText map grid
  pub lists : IsScenText grid.size scen tasks
  pub first : TasksAnswered grid tasks agents (Err (why, grid))
  pub told : fault ≡ as_told (Tasks why)

-- the first fault of the map, the scenario and the tasks
abbrev pub IsOpenFault : List ℕ → Option (List ℕ) → ℕ → RunFault → Type 0
IsOpenFault map None agents fault = HasMapFault map fault
IsOpenFault map (Some scen) agents fault = HasMapFault map fault ⊎ (HasScenFault map scen fault ⊎ HasTaskFault map scen agents fault)
