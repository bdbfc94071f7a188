-- Why there is no verdict, or no scene of a text of paths: the first fault of that text, the map, the scenario and the tasks, the
-- agents and the paths (this project's choice). Want of memory is one fault, wherever it came.
use Rattle.std.specs.Prelude.{◌≡◌, ◌⊎◌, ℕ, Bool, true, false, Option, Some, None, List, [], length, unwrap_or, is_none, Result, Ok, Err}
use Rattle.grid_cells.specs.Size.{Extent}
use Rattle.plan_table.specs.declared.tracks.Mode.{Mode}
use Rattle.scene_edits.specs.Scene.{SceneState}
use Rattle.scene_edits.specs.InOrder.{IsFirstFault}
use Rattle.scene_edits.specs.declared.edits.Edit.{Edit}
use Rattle.scene_edits.specs.declared.edits.Edit.TheVariants as edits
use Rattle.scene_edits.specs.declared.edits.EditFault.{EditFault}
use Rattle.path_files.specs.Texts.{paths_of}
use Rattle.path_files.specs.declared.faults.PathsFault.{PathsFault}
use Rattle.path_files.specs.declared.forms.Form.{Form}
use Rattle.path_files.specs.declared.paths.SolverPaths.{SolverPaths}
use Rattle.solver_check.specs.Opens.{Opens, IsOpenFault}
use Rattle.solver_check.specs.declared.faults.RunFault.{RunFault}
use Rattle.solver_check.specs.declared.faults.RunFault.TheVariants as run_fault
use Rattle.solver_check.specs.CheckEdits.{begun, edits_of, edits_within}
use Rattle.solver_check.specs.CheckTimes.{time_of_fault}
use Rattle.solver_check.specs.Unread.{verdict_unread}
use Rattle.solver_check.specs.Wrongs.{wrongs_of}
use Rattle.solver_check.specs.declared.checks.judging.Verdict.{Verdict}
use Rattle.solver_check.specs.declared.checks.faults.CheckFault.{CheckFault}
use Rattle.solver_check.specs.declared.checks.faults.CheckFault.TheVariants.{Paths, Run, Agent, Path, WriteFailed, OutOfMemory}

abbrev pub of_run : RunFault → CheckFault
of_run run_fault.OutOfMemory = OutOfMemory
of_run why = Run why

-- how many tasks of a scenario are taken: as many as there are paths, unless it is said
abbrev pub tasks_taken : Option ℕ → SolverPaths → ℕ
tasks_taken agents spelled = unwrap_or agents (length spelled.paths)

-- what the text of paths spells, and the scene that opens from the map and the tasks
pub record Spells (map : List ℕ) (scen : Option (List ℕ)) (agents : Option ℕ) (mode : Mode) (paths : List ℕ) (form : Option Form) (spelled : SolverPaths) (opened : SceneState) : Type 0 where
  pub read : SolverPaths
  pub reads : paths_of (is_none scen) form paths ≡ Ok read
  pub opens : Opens map scen (tasks_taken agents read) mode opened
  pub starts : spelled ≡ begun opened read

-- the fault of an agent, or of a path at its time
abbrev pub TellsFault : Extent → Edit → EditFault → CheckFault → Type 0
TellsFault size (edits.Add agent start goal) why fault = fault ≡ Agent agent why
TellsFault size (edits.Path agent cells) why fault = fault ≡ Path agent (time_of_fault size cells why) why
TellsFault size (edits.Drop agent) why fault = ⊥
TellsFault size (edits.Goal agent goal) why fault = ⊥
TellsFault size (edits.Tail agent from cells) why fault = ⊥
TellsFault size (edits.Open cell) why fault = ⊥
TellsFault size (edits.Close cell) why fault = ⊥

-- the fault is that of the first edit that a scene refuses
pub record IsFirstRefusal (scene : SceneState) (asked : List Edit) (fault : CheckFault) : Type 0 where
  pub index : ℕ
  pub why : EditFault
  pub first : IsFirstFault scene asked index why
  pub told : TellsFault scene.grid.size first.edit why fault

-- what is answered where edits aren't all made: that fault, or want of memory
abbrev pub IsRefused : SceneState → List Edit → CheckFault → Type 0
IsRefused scene asked fault = IsFirstRefusal scene asked fault ⊎ (fault ≡ OutOfMemory)

-- the text spells paths, and the map and the tasks make no scene
pub record HasOpenFault (map : List ℕ) (scen : Option (List ℕ)) (agents : Option ℕ) (paths : List ℕ) (form : Option Form) (why : RunFault) : Type 0 where
  pub spelled : SolverPaths
  pub reads : paths_of (is_none scen) form paths ≡ Ok spelled
  pub first : IsOpenFault map scen (tasks_taken agents spelled) why

-- the scene opens, and refuses an agent or a path
pub record HasRefusal (map : List ℕ) (scen : Option (List ℕ)) (agents : Option ℕ) (mode : Mode) (paths : List ℕ) (form : Option Form) (fault : CheckFault) : Type 0 where
  pub spelled : SolverPaths
  pub reads : paths_of (is_none scen) form paths ≡ Ok spelled
  pub opened : SceneState
  pub opens : Opens map scen (tasks_taken agents spelled) mode opened
  pub first : IsFirstRefusal opened (edits_of (is_none scen) (begun opened spelled)) fault

-- the first fault of what a check reads; want of memory may come in place of any
abbrev pub IsPlanFault : List ℕ → Option (List ℕ) → Option ℕ → Mode → List ℕ → Option Form → CheckFault → Type 0
IsPlanFault map scen agents mode paths form (Paths why) = paths_of (is_none scen) form paths ≡ Err why
IsPlanFault map scen agents mode paths form (Run why) = HasOpenFault map scen agents paths form why
IsPlanFault map scen agents mode paths form (Agent agent why) = HasRefusal map scen agents mode paths form (Agent agent why)
IsPlanFault map scen agents mode paths form (Path agent time why) = HasRefusal map scen agents mode paths form (Path agent time why)
IsPlanFault map scen agents mode paths form WriteFailed = ⊥
IsPlanFault map scen agents mode paths form OutOfMemory = Unit {0}

-- why neither the text of paths is read nor the scene opened
abbrev pub IsUnopened : List ℕ → Option (List ℕ) → Option ℕ → List ℕ → Option Form → CheckFault → Type 0
IsUnopened map scen agents paths form (Paths why) = paths_of (is_none scen) form paths ≡ Err why
IsUnopened map scen agents paths form (Run why) = HasOpenFault map scen agents paths form why
IsUnopened map scen agents paths form (Agent agent why) = ⊥
IsUnopened map scen agents paths form (Path agent time why) = ⊥
IsUnopened map scen agents paths form WriteFailed = ⊥
IsUnopened map scen agents paths form OutOfMemory = Unit {0}

-- the text isn't read and has a verdict, and the map and the tasks make no scene
pub record HasOpenFaultAlone (map : List ℕ) (scen : Option (List ℕ)) (agents : Option ℕ) (paths : List ℕ) (form : Option Form) (why : RunFault) : Type 0 where
  pub unread : PathsFault
  pub verdict : Verdict
  pub reads : paths_of (is_none scen) form paths ≡ Err unread
  pub told : verdict_unread unread ≡ Some verdict
  pub first : IsOpenFault map scen (unwrap_or agents 0) why

-- the scene opens, no path is wrong, and it refuses one of an agent that there is
pub record IsDisallowed (map : List ℕ) (scen : Option (List ℕ)) (agents : Option ℕ) (mode : Mode) (paths : List ℕ) (form : Option Form) (fault : CheckFault) : Type 0 where
  pub spelled : SolverPaths
  pub opened : SceneState
  pub opens : Spells map scen agents mode paths form spelled opened
  pub right : wrongs_of (is_none scen) opened spelled ≡ []
  pub first : IsFirstRefusal opened (edits_within (is_none scen) opened spelled) fault

-- why there is no verdict: the first fault of what a check reads, unless a text of paths has a verdict by it
abbrev pub IsUnjudged : List ℕ → Option (List ℕ) → Option ℕ → Mode → List ℕ → Option Form → CheckFault → Type 0
IsUnjudged map scen agents mode paths form (Paths why) = (paths_of (is_none scen) form paths ≡ Err why) × (verdict_unread why ≡ None)
IsUnjudged map scen agents mode paths form (Run why) = HasOpenFault map scen agents paths form why ⊎ HasOpenFaultAlone map scen agents paths form why
IsUnjudged map scen agents mode paths form (Agent agent why) = IsDisallowed map scen agents mode paths form (Agent agent why)
IsUnjudged map scen agents mode paths form (Path agent time why) = IsDisallowed map scen agents mode paths form (Path agent time why)
IsUnjudged map scen agents mode paths form WriteFailed = ⊥
IsUnjudged map scen agents mode paths form OutOfMemory = Unit {0}

-- the verdict could not be written
abbrev pub has_write_failed : {T : Type 0} → Result T CheckFault → Bool
has_write_failed (Ok done) = false
has_write_failed (Err WriteFailed) = true
has_write_failed (Err (Paths why)) = false
has_write_failed (Err (Run why)) = false
has_write_failed (Err (Agent agent why)) = false
has_write_failed (Err (Path agent time why)) = false
has_write_failed (Err OutOfMemory) = false
