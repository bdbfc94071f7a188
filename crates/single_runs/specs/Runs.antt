-- A run of `serve`: the session over the desk of the scene that the run opens (this project's choice).
use Rattle.std.specs.Prelude.{◌≡◌, ◌⊎◌, ℕ, List, Option, Some, None, Result, Err}
use Rattle.scene_edits.specs.Scene.{SceneState}
use Rattle.plan_table.specs.declared.tracks.Mode.{Mode}
use Rattle.desk_commits.specs.State.{DeskState, opening}
use Rattle.session_protocol.specs.Answer.{answering}
use Rattle.desk_commits.specs.Counting.{desk_counting}
use Rattle.session_protocol.specs.Session.{Serves}
use Rattle.session_protocol.specs.Start.{HearsMap, StopsInMap, bounds_after}
use Rattle.session_protocol.specs.declared.bounds.Bounds.{Bounds}
use Rattle.session_protocol.specs.declared.bounds.ServeFault.{ServeFault}
use Rattle.session_protocol.specs.declared.drafts.Session.{Session}
use Rattle.session_protocol.specs.declared.drafts.Session.TheVariants.{Idle}
use Rattle.solver_check.specs.Faults.{as_told, run_answer}
use Rattle.solver_check.specs.Opens.{Opens, IsOpenFault}
use Rattle.solver_check.specs.declared.faults.RunFault.{RunFault}
use Rattle.solver_check.specs.declared.faults.RunFault.TheVariants.{Serve}
use Rattle.solver_check.specs.Bounds.{run_bounds}

-- a session over the desk that is opened on the scene of the map and the scenario
pub record ServesScene (map : List ℕ) (scen : Option (List ℕ)) (agents : ℕ) (mode : Mode) (limit : ℕ) (bounds : Bounds) (left0 left1 held0 held1 : Option (List ℕ)) (result : Result ℕ RunFault) : Type 0 where
  pub scene : SceneState
  pub opens : Opens map scen agents mode scene
  pub last : Session
  pub desk : DeskState
  pub ended : Result ℕ ServeFault
  pub session : Serves (answering desk_counting) bounds left0 left1 held0 held1 (Idle, opening scene limit) (last, desk) ended
  pub told : result ≡ run_answer ended

-- the scene doesn't open, and nothing is read or written
pub record IsUnopened (map : List ℕ) (scen : Option (List ℕ)) (agents : ℕ) (left0 left1 held0 held1 : Option (List ℕ)) (result : Result ℕ RunFault) : Type 0 where
  pub fault : RunFault
  pub first : IsOpenFault map scen agents fault
  pub told : result ≡ Err fault
  pub unread : left1 ≡ left0
  pub silent : held1 ≡ held0

-- what a run over the text of a map leaves
abbrev pub RunsOver : List ℕ → Option (List ℕ) → ℕ → Mode → ℕ → Bounds → (left0 left1 held0 held1 : Option (List ℕ)) → Result ℕ RunFault → Type 0
RunsOver map scen agents mode limit bounds left0 left1 held0 held1 result =
    ServesScene map scen agents mode limit bounds left0 left1 held0 held1 result ⊎ IsUnopened map scen agents left0 left1 held0 held1 result

-- the text of the map came first, and the run was over it and the rest; its bytes count
pub record RunsAfterMap (scen : Option (List ℕ)) (agents : ℕ) (mode : Mode) (limit : ℕ) (left0 left1 held0 held1 : Option (List ℕ)) (result : Result ℕ RunFault) : Type 0 where
  pub text : List ℕ
  pub between : Option (List ℕ)
  pub heard : HearsMap left0 between run_bounds.bytes text
  pub runs : RunsOver text scen agents mode limit (bounds_after text run_bounds) between left1 held0 held1 result

-- the text of the map did not come whole
pub record StopsFirst (left0 left1 held0 held1 : Option (List ℕ)) (result : Result ℕ RunFault) : Type 0 where
  pub why : ServeFault
  pub stops : StopsInMap left0 left1 run_bounds.bytes why
  pub told : result ≡ Err (as_told (Serve why))
  pub silent : held1 ≡ held0

-- what a run of `serve` leaves: where no map is handed in, its text comes first from the reader
abbrev pub Runs : Option (List ℕ) → Option (List ℕ) → ℕ → Mode → ℕ → (left0 left1 held0 held1 : Option (List ℕ)) → Result ℕ RunFault → Type 0
Runs (Some map) scen agents mode limit left0 left1 held0 held1 result = RunsOver map scen agents mode limit run_bounds left0 left1 held0 held1 result
Runs None scen agents mode limit left0 left1 held0 held1 result =
    RunsAfterMap scen agents mode limit left0 left1 held0 held1 result ⊎ StopsFirst left0 left1 held0 held1 result
