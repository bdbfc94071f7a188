-- How a drill fails: its faults come in an order, and of several scripts' faults the first script's is told (this project's choice).
use Rattle.std.specs.Prelude.{◌≡◌, ◌⊎◌, ℕ, ◌+◌, ◌<◌, ◌≤◌, Bool, List, [], ◌∷◌, length, Option, Result, Ok, Err}
use Rattle.plan_table.specs.declared.tracks.Mode.{Mode}
use Rattle.scene_edits.specs.Scene.{SceneState}
use Rattle.desk_report.specs.Bytes.{AppendsFront}
use Rattle.desk_commits.specs.State.{DeskState, opening}
use Rattle.desk_commits.specs.declared.answers.Reading.{Reading}
use Rattle.desk_commits.specs.declared.limits.TheConstants.{MOST_ENTRIES}
use Rattle.desk_shared.specs.Passes.{PassState, Sharing}
use Rattle.session_protocol.specs.declared.bounds.ServeFault.{ServeFault}
use Rattle.shared_runs.specs.Drills.{IsSession, AreServed, ComesTo, drill_text}
use Rattle.solver_check.specs.Faults.{as_told}
use Rattle.solver_check.specs.Inputs.{Input}
use Rattle.solver_check.specs.Opens.{Opens, IsOpenFault}
use Rattle.shared_runs.specs.declared.drilling.TheConstants.{MOST_SCRIPTS}
use Rattle.solver_check.specs.declared.faults.RunFault.{RunFault}
use Rattle.solver_check.specs.declared.faults.RunFault.TheVariants.{Serve, WriteFailed, PassLost, TooManyScripts, OutOfMemory}

-- the script's session for that planner ended so, through a pass of the shared desk that began where the desk was shared
pub record HasEnded (shared : Sharing) (start : DeskState) (planner : ℕ) (script : Input) (ended : Result ℕ ServeFault) : Type 0 where
  pub old : PassState
  pub new : PassState
  pub begins : old.start ≡ start
  pub nothing_seen : old.made ≡ []
  pub number : old.planner ≡ planner
  pub session : IsSession shared old script new ended

-- the script's session was served to its end
abbrev pub WasServed : Sharing → DeskState → ℕ → Input → Type 0
WasServed shared start planner script = (lines : ℕ) × HasEnded shared start planner script (Ok lines)

-- it ended before, at that fault
abbrev pub HasScriptFault : Sharing → DeskState → ℕ → Input → RunFault → Type 0
HasScriptFault shared start planner script fault = (why : ServeFault) × HasEnded shared start planner script (Err why) × (fault ≡ as_told (Serve why))

-- the fault of the first script that has one, for planners numbered from that one: those before it were served to their end
abbrev pub IsFirstFaultOfScripts : Sharing → DeskState → ℕ → List Input → RunFault → Type 0
IsFirstFaultOfScripts shared start planner [] fault = ⊥
IsFirstFaultOfScripts shared start planner (script ∷ later) fault =
    HasScriptFault shared start planner script fault ⊎ (WasServed shared start planner script × IsFirstFaultOfScripts shared start (planner + 1) later fault)

-- the scripts were not all served: a thread's start wanted memory, or this is the first script's fault
abbrev pub IsScriptsFault : Sharing → DeskState → ℕ → List Input → RunFault → Type 0
IsScriptsFault shared start planner scripts fault = (fault ≡ OutOfMemory) ⊎ IsFirstFaultOfScripts shared start planner scripts fault

-- the scripts were all served, and the desk did not come back
pub record LosesDesk (shared : Sharing) (start : DeskState) (scripts : List Input) (fault : RunFault) : Type 0 where
  pub first : PassState
  pub served : AreServed shared start first.made 1 scripts
  pub told : fault ≡ PassLost

-- the fault of the first script that has one, over a shared desk that begins so, or the loss of that desk
abbrev pub IsSharedFault : DeskState → List Input → RunFault → Type 0
IsSharedFault start scripts fault = (shared : Sharing) × (IsFirstFaultOfScripts shared start 1 scripts fault ⊎ LosesDesk shared start scripts fault)

-- the scene opens, and memory is wanting, a script has a fault, or the desk did not come back
pub record FailsAtScripts (map : List ℕ) (scen : Option (List ℕ)) (agents : ℕ) (mode : Mode) (scripts : List Input) (fault : RunFault) : Type 0 where
  pub scene : SceneState
  pub opens : Opens map scen agents mode scene
  pub why : (fault ≡ OutOfMemory) ⊎ IsSharedFault (opening scene MOST_ENTRIES) scripts fault

-- the sink failed, and a prefix of what the drill writes went out
pub record StopsInDrill (map : List ℕ) (scen : Option (List ℕ)) (agents : ℕ) (mode : Mode) (scripts : List Input) (held0 held1 : Option (List ℕ)) (fault : RunFault) : Type 0 where
  pub reading : Reading
  pub same : Bool
  pub comes_to : ComesTo map scen agents mode scripts reading same
  pub fails : fault ≡ WriteFailed
  pub sent : AppendsFront held0 held1 (drill_text reading same)

-- a drill fails before it writes: by the first fault of the map, the scenario and the tasks, else by that of the scripts
abbrev pub FailsUnwritten : List ℕ → Option (List ℕ) → ℕ → Mode → List Input → RunFault → Type 0
FailsUnwritten map scen agents mode scripts fault = IsOpenFault map scen agents fault ⊎ FailsAtScripts map scen agents mode scripts fault

-- how a drill of not too many scripts fails: before it writes, else by its sink
abbrev pub FailsFew : List ℕ → Option (List ℕ) → ℕ → Mode → List Input → (held0 held1 : Option (List ℕ)) → RunFault → Type 0
FailsFew map scen agents mode scripts held0 held1 fault =
    (FailsUnwritten map scen agents mode scripts fault × (held1 ≡ held0)) ⊎ StopsInDrill map scen agents mode scripts held0 held1 fault

-- how a drill fails: too many scripts are told before all else
abbrev pub FailsDrill : List ℕ → Option (List ℕ) → ℕ → Mode → List Input → (held0 held1 : Option (List ℕ)) → RunFault → Type 0
FailsDrill map scen agents mode scripts held0 held1 fault =
    ((MOST_SCRIPTS < length scripts) × (fault ≡ TooManyScripts) × (held1 ≡ held0))
    ⊎ ((length scripts ≤ MOST_SCRIPTS) × FailsFew map scen agents mode scripts held0 held1 fault)
