-- What comes of opening a desk behind a handle (this project's choice): the desk that `serve` opens of the same texts.
use Rattle.std.specs.Prelude.{◌≡◌, ◌⊎◌, ◌<◌, ◌≤◌, ℕ, List, [], Option, Some, None, Result, Ok, Err, Bool, true, false}
use Rattle.grid_cells.specs.Grid.{Chart}
use Rattle.plan_table.specs.declared.tracks.Mode.{Mode}
use Rattle.plan_table.specs.declared.tracks.Mode.TheVariants.{Stay, Disappear}
use Rattle.bench_reader.specs.Lines.{lines_of}
use Rattle.bench_reader.specs.MapText.{IsMapText}
use Rattle.bench_reader.specs.MapFaults.{IsMapFault}
use Rattle.bench_reader.specs.ScenText.{IsScenText}
use Rattle.bench_reader.specs.ScenFaults.{IsScenFault}
use Rattle.bench_reader.specs.declared.maps.MapFault.{MapFault}
use Rattle.bench_reader.specs.declared.scens.ScenFault.{ScenFault}
use Rattle.bench_reader.specs.declared.tasks.Task.{Task}
use Rattle.scene_edits.specs.Scene.{SceneState}
use Rattle.scene_edits.specs.Tasks.{TasksAnswered}
use Rattle.scene_edits.specs.declared.tasks.TaskFault.{TaskFault}
use Rattle.desk_commits.specs.State.{DeskState, opening}
use Rattle.desk_commits.specs.Replays.{Log, IsReplay}
use Rattle.desk_commits.specs.declared.journals.ReplayFault.{ReplayFault}
use Rattle.desk_commits.specs.declared.limits.TheConstants.{MOST_ENTRIES}
use Rattle.journal_text.specs.Reading.{ReadsAs}
use Rattle.journal_text.specs.declared.faults.JournalFault.{JournalFault}
use Rattle.session_protocol.specs.declared.drafts.Session.TheVariants.{Idle}
use Rattle.desk_c.specs.Calls.{is_open}
use Rattle.desk_c.specs.declared.opening.OpenFault.{OpenFault}
use Rattle.desk_c.specs.declared.opening.OpenFault.TheVariants.{Limit, Map, Scen, Tasks, Journal, Replay}
use Rattle.desk_c.specs.declared.states.Opening.{Opening}
use Rattle.desk_c.specs.declared.states.Opening.TheVariants.{Open, Refused}
use Rattle.desk_c.specs.declared.states.State.{State}

-- a text, where it is given
abbrev pub optional : Bool → List ℕ → Option (List ℕ)
optional true text = Some text
optional false text = None

-- the mode, by whether agents disappear at their goals
abbrev pub mode_of : Bool → Mode
mode_of true = Disappear
mode_of false = Stay

-- the scene of a map on which no agent is
pub record OpensBare (map : List ℕ) (mode : Mode) (scene : SceneState) : Type 0 where
  pub grid : Chart
  pub reads : IsMapText map grid
  pub is : scene ≡ record { grid = grid; rows = []; mode = mode }

-- the scene that the first tasks of a scenario make on a map, in that mode: agent i rests at the start of task i
pub record OpensWith (map scen : List ℕ) (agents : ℕ) (mode : Mode) (scene : SceneState) : Type 0 where
  pub grid : Chart
  pub tasks : List Task
  pub reads : IsMapText map grid
  pub lists : IsScenText grid.size scen tasks
  pub staying : SceneState
  pub answered : TasksAnswered grid tasks agents (Ok staying)
  pub is : scene ≡ record { grid = staying.grid; rows = staying.rows; mode = mode }

-- the map is read, and this is the scenario's first fault
pub record HasScenFault (map scen : List ℕ) (why : ScenFault) : Type 0 where
  pub grid : Chart
  pub reads : IsMapText map grid
  pub first : IsScenFault grid.size (lines_of scen) why

-- both are read, and the first tasks make no scene of that many agents
pub record HasTaskFault (map scen : List ℕ) (agents : ℕ) (why : TaskFault) : Type 0 where
  pub grid : Chart
  pub tasks : List Task
  pub reads : IsMapText map grid
  pub lists : IsScenText grid.size scen tasks
  pub first : TasksAnswered grid tasks agents (Err (why, grid))

-- the scene of a map and, where one is given, a scenario, or their first fault
abbrev pub MakesScene : List ℕ → Option (List ℕ) → ℕ → Mode → Result SceneState OpenFault → Type 0
MakesScene map None agents mode (Ok scene) = OpensBare map mode scene
MakesScene map (Some scen) agents mode (Ok scene) = OpensWith map scen agents mode scene
MakesScene map scen agents mode (Err (Map why)) = IsMapFault (lines_of map) why
MakesScene map (Some scen) agents mode (Err (Scen why)) = HasScenFault map scen why
MakesScene map (Some scen) agents mode (Err (Tasks why)) = HasTaskFault map scen agents why
MakesScene map scen agents mode (Err other) = ⊥

-- the journal is read, and isn't replayed on the scene
pub record HasReplayFault (text : List ℕ) (scene : SceneState) (limit : ℕ) (why : ReplayFault) : Type 0 where
  pub log : Log
  pub reads : ReadsAs text (Ok log)
  pub first : IsReplay scene limit log (Err why)

-- the desk that is opened on the scene and, where a journal's text is given, commits its entries, or the journal's first fault
abbrev pub Replays : Option (List ℕ) → SceneState → ℕ → Result DeskState OpenFault → Type 0
Replays None scene limit (Ok desk) = desk ≡ opening scene limit
Replays (Some text) scene limit (Ok desk) = (log : Log) × ReadsAs text (Ok log) × IsReplay scene limit log (Ok desk)
Replays (Some text) scene limit (Err (Journal why)) = ReadsAs text (Err why)
Replays (Some text) scene limit (Err (Replay why)) = HasReplayFault text scene limit why
Replays journal scene limit (Err other) = ⊥

-- the scene is made, and so is the desk on it, or it isn't
pub record GoesOn (map : List ℕ) (scen : Option (List ℕ)) (agents : ℕ) (mode : Mode) (limit : ℕ) (journal : Option (List ℕ)) (result : Result DeskState OpenFault) : Type 0 where
  pub scene : SceneState
  pub opens : MakesScene map scen agents mode (Ok scene)
  pub replays : Replays journal scene limit result

-- the desk of the texts, or their first fault
abbrev pub MakesDesk : List ℕ → Option (List ℕ) → ℕ → Mode → ℕ → Option (List ℕ) → Result DeskState OpenFault → Type 0
MakesDesk map scen agents mode limit journal (Ok desk) = GoesOn map scen agents mode limit journal (Ok desk)
MakesDesk map scen agents mode limit journal (Err fault) =
    MakesScene map scen agents mode (Err fault) ⊎ GoesOn map scen agents mode limit journal (Err fault)

-- the desk of the texts with a session of which nothing was heard, or the first fault: of the limit, else of the texts
abbrev pub Opens : List ℕ → Option (List ℕ) → ℕ → Mode → ℕ → Option (List ℕ) → Opening → Type 0
Opens map scen agents mode limit journal (Open it) =
    MakesDesk map scen agents mode limit journal (Ok it.desk) × (it.dialogue ≡ Idle) × (it.lines ≡ 0)
Opens map scen agents mode limit journal (Refused Limit) = (limit ≡ 0) ⊎ (MOST_ENTRIES < limit)
Opens map scen agents mode limit journal (Refused fault) = MakesDesk map scen agents mode limit journal (Err fault)

-- the answer of a desk that has just been opened is empty; nothing is said here of a fault's text
abbrev pub IsFirst : Opening → List ℕ → Type 0
IsFirst (Open it) answer = answer ≡ []
IsFirst (Refused fault) answer = Unit {0}

-- what a handle has of an opening
pub record IsNew (map : List ℕ) (scen : Option (List ℕ)) (agents : ℕ) (mode : Mode) (limit : ℕ) (journal : Option (List ℕ)) (state : State) : Type 0 where
  pub opens : Opens map scen agents mode limit journal state.opening
  pub first : IsFirst state.opening state.answer.items

-- a desk is open or refused; or there was no memory, and the handle is closed
abbrev pub IsOpened : Bool → List ℕ → Option (List ℕ) → ℕ → Bool → ℕ → Option (List ℕ) → Option State → Type 0
IsOpened told map scen agents disappears limit journal None = told ≡ false
IsOpened told map scen agents disappears limit journal (Some state) = (told ≡ is_open state.opening) × IsNew map scen agents (mode_of disappears) limit journal state
