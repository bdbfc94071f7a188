-- A run of `draw`: the picture of the scene that a map, a scenario, and a journal or a solver's paths make (this project's choice).
use Rattle.std.specs.Prelude.{◌≡◌, ◌⊎◌, ℕ, List, Option, None, unwrap_or}
use Rattle.plan_table.specs.declared.tracks.Mode.{Mode}
use Rattle.scene_edits.specs.Scene.{SceneState}
use Rattle.desk_report.specs.Report.{IsReportOf}
use Rattle.desk_report.specs.declared.reports.Report.{Report}
use Rattle.desk_commits.specs.State.{DeskState}
use Rattle.desk_commits.specs.declared.limits.TheConstants.{MOST_ENTRIES}
use Rattle.desk_pictures.specs.Growth.{GrowsAround}
use Rattle.desk_pictures.specs.Marks.{findings_text}
use Rattle.solver_check.specs.Opens.{bytes_of}
use Rattle.single_runs.specs.Opened.{OpensDesk, IsDeskFault}
use Rattle.solver_check.specs.declared.faults.RunFault.{RunFault}
use Rattle.solver_check.specs.Checks.{IsPlanned}
use Rattle.solver_check.specs.CheckFaults.{of_run, IsPlanFault}
use Rattle.solver_check.specs.declared.checks.faults.CheckFault.{CheckFault}
use Rattle.solver_check.specs.declared.checks.faults.CheckFault.TheVariants.{WriteFailed, OutOfMemory}
use Rattle.single_runs.specs.declared.courses.Courses.{Courses}
use Rattle.single_runs.specs.declared.courses.Courses.TheVariants.{Journal, Solver}

-- the scene of the desk that commits a journal's entries
pub record IsReplayed (map : List ℕ) (scen : Option (List ℕ)) (agents : ℕ) (mode : Mode) (journal : Option (List ℕ)) (scene : SceneState) : Type 0 where
  pub desk : DeskState
  pub opened : OpensDesk map scen agents mode MOST_ENTRIES journal desk
  pub is : scene ≡ desk.scene

-- the first fault of the map, the scenario, the tasks and the journal
pub record HasDeskFault (map : List ℕ) (scen : Option (List ℕ)) (agents : ℕ) (mode : Mode) (journal : Option (List ℕ)) (fault : CheckFault) : Type 0 where
  pub why : RunFault
  pub first : IsDeskFault map scen agents mode MOST_ENTRIES journal why
  pub told : fault ≡ of_run why

-- the scene that is drawn
abbrev pub IsDrawn : List ℕ → Option (List ℕ) → Option ℕ → Mode → Courses → SceneState → Type 0
IsDrawn map scen agents mode (Journal journal) scene = IsReplayed map scen (unwrap_or agents 0) mode (bytes_of journal) scene
IsDrawn map scen agents mode (Solver paths) scene = IsPlanned map scen agents mode paths.now None scene

-- the texts make no scene, and this is their first fault
abbrev pub IsSceneFault : List ℕ → Option (List ℕ) → Option ℕ → Mode → Courses → CheckFault → Type 0
IsSceneFault map scen agents mode (Journal journal) fault = HasDeskFault map scen (unwrap_or agents 0) mode (bytes_of journal) fault
IsSceneFault map scen agents mode (Solver paths) fault = IsPlanFault map scen agents mode paths.now None fault

-- what is written has a mark for each visit and entry of the scene's report, and no other
pub record IsPictureOf (scene : SceneState) (at : Option ℕ) (held0 held1 : Option (List ℕ)) : Type 0 where
  pub report : Report
  pub told : IsReportOf scene.grid scene.mode scene.rows report
  pub written : GrowsAround held0 held1 (findings_text at scene report)

-- what a run that comes to its end has written
pub record Draws (map : List ℕ) (scen : Option (List ℕ)) (agents : Option ℕ) (mode : Mode) (courses : Courses) (at : Option ℕ) (held0 held1 : Option (List ℕ)) : Type 0 where
  pub scene : SceneState
  pub drawn : IsDrawn map scen agents mode courses scene
  pub picture : IsPictureOf scene at held0 held1

-- the scene is there, and memory for its report is wanting or the writer failed
pub record StopsAfter (map : List ℕ) (scen : Option (List ℕ)) (agents : Option ℕ) (mode : Mode) (courses : Courses) (fault : CheckFault) : Type 0 where
  pub scene : SceneState
  pub drawn : IsDrawn map scen agents mode courses scene
  pub told : (fault ≡ OutOfMemory) ⊎ (fault ≡ WriteFailed)

-- how a run fails: by the first fault of its texts, else, where there is none, by want of memory or by its writer
abbrev pub FailsDraw : List ℕ → Option (List ℕ) → Option ℕ → Mode → Courses → CheckFault → Type 0
FailsDraw map scen agents mode courses fault = IsSceneFault map scen agents mode courses fault ⊎ StopsAfter map scen agents mode courses fault
