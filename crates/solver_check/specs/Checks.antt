-- A run of `check`: the verdict on the paths of a text (this project's choice).
use Rattle.std.specs.Prelude.{◌≡◌, ◌⊎◌, ℕ, List, Option, is_none, Ok, Bool}
use Rattle.std.specs.Io.KnownBytes.{Appends}
use Rattle.plan_table.specs.declared.tracks.Mode.{Mode}
use Rattle.scene_edits.specs.Scene.{SceneState}
use Rattle.scene_edits.specs.InOrder.{edited_all, AreAllowed}
use Rattle.path_files.specs.Orders.{has_rows_first}
use Rattle.path_files.specs.Texts.{paths_of}
use Rattle.path_files.specs.declared.forms.Form.{Form}
use Rattle.path_files.specs.declared.paths.SolverPaths.{SolverPaths}
use Rattle.desk_report.specs.Bytes.{AppendsFront}
use Rattle.mapf_rules.specs.declared.kinds.Kinds.{Kinds}
use Rattle.solver_check.specs.Opens.{Opens}
use Rattle.solver_check.specs.CheckEdits.{begun, edits_of}
use Rattle.solver_check.specs.CheckFaults.{tasks_taken, IsUnjudged}
use Rattle.solver_check.specs.declared.checks.faults.CheckFault.{CheckFault}
use Rattle.solver_check.specs.declared.checks.faults.CheckFault.TheVariants.{WriteFailed}
use Rattle.solver_check.specs.CheckTexts.{check_text, says_yes}
use Rattle.solver_check.specs.Listings.{is_quiet, listed}
use Rattle.solver_check.specs.Stated.{checked_of}
use Rattle.solver_check.specs.Styles.{styled_text}
use Rattle.solver_check.specs.Verdicts.{IsVerdict}
use Rattle.solver_check.specs.declared.checks.costs.Checked.{Checked}
use Rattle.solver_check.specs.declared.checks.styles.Style.{Style}
use Rattle.solver_check.specs.declared.checks.judging.Verdict.{Verdict}
use Rattle.solver_check.specs.declared.checks.listings.Listing.{Listing}

-- the scene that opens from the map and the tasks, with the agents and the paths that the text spells, all of them allowed
pub record IsPlanned (map : List ℕ) (scen : Option (List ℕ)) (agents : Option ℕ) (mode : Mode) (paths : List ℕ) (form : Option Form) (scene : SceneState) : Type 0 where
  pub spelled : SolverPaths
  pub reads : paths_of (is_none scen) form paths ≡ Ok spelled
  pub opened : SceneState
  pub opens : Opens map scen (tasks_taken agents spelled) mode opened
  pub allowed : AreAllowed opened (edits_of (is_none scen) (begun opened spelled))
  pub is : scene ≡ edited_all opened (edits_of (is_none scen) (begun opened spelled))

-- what a check that comes to its end has written and answers
pub record Checks (map : List ℕ) (scen : Option (List ℕ)) (agents : Option ℕ) (mode : Mode) (paths : List ℕ) (form : Option Form) (kinds : Kinds) (listing : Listing) (held0 held1 : Option (List ℕ)) (solved : Bool) : Type 0 where
  pub verdict : Verdict
  pub is : IsVerdict map scen agents mode paths form kinds verdict
  pub answer : solved ≡ says_yes verdict
  pub written : Appends held0 held1 (check_text (is_quiet listing) (listed listing kinds verdict))

-- and one in a style
pub record ChecksIn (map : List ℕ) (scen : Option (List ℕ)) (agents : Option ℕ) (mode : Mode) (paths : List ℕ) (form : Option Form) (kinds : Kinds) (listing : Listing) (style : Style) (held0 held1 : Option (List ℕ)) (checked : Checked) : Type 0 where
  pub verdict : Verdict
  pub is : IsVerdict map scen agents mode paths form kinds verdict
  pub answer : checked ≡ checked_of verdict
  pub written : Appends held0 held1 (styled_text style (has_rows_first form paths) listing kinds verdict)

-- the sink failed, and a prefix of what the check writes went out
pub record StopsInCheck (map : List ℕ) (scen : Option (List ℕ)) (agents : Option ℕ) (mode : Mode) (paths : List ℕ) (form : Option Form) (kinds : Kinds) (listing : Listing) (held0 held1 : Option (List ℕ)) : Type 0 where
  pub verdict : Verdict
  pub is : IsVerdict map scen agents mode paths form kinds verdict
  pub sent : AppendsFront held0 held1 (check_text (is_quiet listing) (listed listing kinds verdict))

-- and in a style
pub record StopsIn (map : List ℕ) (scen : Option (List ℕ)) (agents : Option ℕ) (mode : Mode) (paths : List ℕ) (form : Option Form) (kinds : Kinds) (listing : Listing) (style : Style) (held0 held1 : Option (List ℕ)) : Type 0 where
  pub verdict : Verdict
  pub is : IsVerdict map scen agents mode paths form kinds verdict
  pub sent : AppendsFront held0 held1 (styled_text style (has_rows_first form paths) listing kinds verdict)

-- how a check fails: by the first fault of what it reads, else, where there is none, by its writer
abbrev pub IsCheckFault : List ℕ → Option (List ℕ) → Option ℕ → Mode → List ℕ → Option Form → CheckFault → Type 0
IsCheckFault map scen agents mode paths form fault =
    IsUnjudged map scen agents mode paths form fault
    ⊎ ((fault ≡ WriteFailed) × ((kinds : Kinds) × (verdict : Verdict) × IsVerdict map scen agents mode paths form kinds verdict))
