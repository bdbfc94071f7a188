-- The verdict on the paths of a text (this project's choice).
use Rattle.std.specs.Prelude.{◌≡◌, ◌≢◌, ◌↔◌, ◌⊎◌, IsTrue, ℕ, List, [], Option, Some, Err, Bool, is_none, unwrap_or}
use Rattle.plan_table.specs.declared.tracks.Mode.{Mode}
use Rattle.scene_edits.specs.Scene.{SceneState}
use Rattle.scene_edits.specs.InOrder.{edited_all, AreAllowed}
use Rattle.path_files.specs.Texts.{paths_of}
use Rattle.path_files.specs.declared.faults.PathsFault.{PathsFault}
use Rattle.path_files.specs.declared.forms.Form.{Form}
use Rattle.path_files.specs.declared.paths.SolverPaths.{SolverPaths}
use Rattle.desk_report.specs.Report.{IsReportOf}
use Rattle.desk_report.specs.Solves.{Solves}
use Rattle.desk_report.specs.declared.reports.Report.{Report}
use Rattle.mapf_rules.specs.declared.kinds.Kinds.{Kinds}
use Rattle.solver_check.specs.Opens.{Opens}
use Rattle.solver_check.specs.CheckEdits.{edits_within}
use Rattle.solver_check.specs.CheckFaults.{Spells}
use Rattle.solver_check.specs.Differences.{differences_of}
use Rattle.solver_check.specs.Unread.{verdict_unread}
use Rattle.solver_check.specs.Wrongs.{wrongs_of}
use Rattle.solver_check.specs.declared.checks.differences.Difference.{Difference}
use Rattle.solver_check.specs.declared.checks.judging.Verdict.{Verdict}
use Rattle.solver_check.specs.declared.checks.judging.Verdict.TheVariants.{NoPaths, Repeated, Wrong, Judged}

-- the report of the scene, and whether that says that the problem is solved, from which the text of paths differs nowhere
pub record IsAnswered (scene : SceneState) (kinds : Kinds) (report : Report) (differences : List Difference) (solved : Bool) : Type 0 where
  pub told : IsReportOf scene.grid scene.mode scene.rows report
  pub answer : IsTrue solved ↔ (Solves report kinds × (differences ≡ []))

-- a verdict with a report is so
abbrev pub IsJudged : SceneState → List Difference → Kinds → Verdict → Type 0
IsJudged scene found kinds (Judged report differences solved) = (differences ≡ found) × IsAnswered scene kinds report differences solved
IsJudged scene found kinds NoPaths = ⊥
IsJudged scene found kinds (Repeated line) = ⊥
IsJudged scene found kinds (Wrong wrongs differences) = ⊥

-- the verdict on the paths of a text, on the scene that opens from the map and the tasks: those that aren't any, or else the answer for
-- the scene that they make, in which all of them are allowed
abbrev pub IsOn : (bare : Bool) → SolverPaths → SceneState → Kinds → Verdict → Type 0
IsOn bare spelled opened kinds NoPaths = ⊥
IsOn bare spelled opened kinds (Repeated line) = ⊥
IsOn bare spelled opened kinds (Wrong wrongs differences) =
    (wrongs ≡ wrongs_of bare opened spelled) × (wrongs ≢ []) × (differences ≡ differences_of bare opened spelled)
IsOn bare spelled opened kinds (Judged report differences solved) =
    (wrongs_of bare opened spelled ≡ []) × AreAllowed opened (edits_within bare opened spelled)
    × IsJudged (edited_all opened (edits_within bare opened spelled)) (differences_of bare opened spelled) kinds (Judged report differences solved)

-- this is the verdict on a text that isn't read, and the map and the tasks make a scene
pub record IsUnread (map : List ℕ) (scen : Option (List ℕ)) (agents : Option ℕ) (mode : Mode) (text : List ℕ) (form : Option Form) (verdict : Verdict) : Type 0 where
  pub fault : PathsFault
  pub reads : paths_of (is_none scen) form text ≡ Err fault
  pub told : verdict_unread fault ≡ Some verdict
  pub opened : SceneState
  pub opens : Opens map scen (unwrap_or agents 0) mode opened

-- the text is read and the scene opened, and this is the verdict there
pub record IsSpelled (map : List ℕ) (scen : Option (List ℕ)) (agents : Option ℕ) (mode : Mode) (text : List ℕ) (form : Option Form) (kinds : Kinds) (verdict : Verdict) : Type 0 where
  pub spelled : SolverPaths
  pub opened : SceneState
  pub opens : Spells map scen agents mode text form spelled opened
  pub is : IsOn (is_none scen) spelled opened kinds verdict

-- the verdict
abbrev pub IsVerdict : List ℕ → Option (List ℕ) → Option ℕ → Mode → List ℕ → Option Form → Kinds → Verdict → Type 0
IsVerdict map scen agents mode text form kinds verdict =
    IsUnread map scen agents mode text form verdict ⊎ IsSpelled map scen agents mode text form kinds verdict
