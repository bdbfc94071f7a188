-- A drill: the scripts of planners, served in threads of their own over one shared desk, and the last report (this project's choice).
use Rattle.std.specs.Prelude.{◌≡◌, ◌↔◌, IsTrue, ℕ, ◌+◌, ◌<◌, ◌≤◌, Bool, true, false, List, [], ◌∷◌, ◌++◌, slice_index_or, length, All, Any, Vec, Option, None, Result, Ok, codes}
use Rattle.std.specs.Global.{Global}
use Rattle.std.specs.Io.KnownBytes.{Appends}
use mathlib.Core.List.{IsPrefix}
use Rattle.plan_table.specs.declared.tracks.Mode.{Mode}
use Rattle.scene_edits.specs.Scene.{SceneState}
use Rattle.desk_report.specs.LineText.{line_text}
use Rattle.desk_report.specs.Report.{IsReportOf}
use Rattle.desk_report.specs.declared.reports.Report.{Report}
use Rattle.desk_commits.specs.Entries.{Entry}
use Rattle.desk_commits.specs.State.{DeskState, opening, after}
use Rattle.desk_commits.specs.Replays.{IsLegal}
use Rattle.desk_commits.specs.Questions.{ShowsReport}
use Rattle.desk_commits.specs.declared.answers.Reading.{Reading}
use Rattle.desk_commits.specs.declared.limits.TheConstants.{MOST_ENTRIES}
use Rattle.desk_shared.specs.Passes.{PassState, Held, Sharing, Owns, own_of, version_at, AreOfPlanners, HasJust}
use Rattle.desk_shared.specs.Calls.{AsksBy, IsDeskAtClose}
use Rattle.session_lines.specs.declared.versions.LinesVersion.{LinesVersion}
use Rattle.session_lines.specs.declared.versions.LinesVersion.TheVariants.{One}
use Rattle.session_protocol.specs.Answer.{answering_in}
use Rattle.session_protocol.specs.Session.{Serves, is_write_failed}
use Rattle.session_protocol.specs.declared.bounds.ServeFault.{ServeFault}
use Rattle.session_protocol.specs.declared.drafts.Session.{Session}
use Rattle.session_protocol.specs.declared.drafts.Session.TheVariants.{Idle}
use Rattle.desk_shared.specs.Windows.{window_counting}
use Rattle.solver_check.specs.Opens.{Opens}
use Rattle.session_protocol.specs.Replies.{reported_text}
use Rattle.solver_check.specs.Bounds.{run_bounds}
use Rattle.solver_check.specs.Inputs.{Input, told}

-- the pass may give away the numbers from the first up to the planners, and no others
abbrev pub KeepsFrom : ℕ → ℕ → List Bool → Type 0
KeepsFrom first planners unused = (number : ℕ) → (slice_index_or unused number false ≡ true → (first ≤ number) × (number < planners)) × (first ≤ number → number < planners → slice_index_or unused number false ≡ true)

-- the pass has seen nothing, and may give the numbers behind that one to so many planners
pub record MaySplit (desk : Sharing) (pass : Held) (number many : ℕ) : Type 0 where
  pub owned : Owns desk pass
  pub few : number + many < 256
  pub kept : KeepsFrom (number + 1) (number + many + 1) pass.known.unused
  pub nothing_seen : pass.known.made ≡ []
  pub none_joined : pass.known.past ≡ []

-- the bytes of each script, in that version of lines
abbrev pub inputs_of : LinesVersion → List (Vec ℕ Global) → List Input
inputs_of version [] = []
inputs_of version (script ∷ later) = told version script.items ∷ inputs_of version later

-- the bytes of each script, in version 1
abbrev pub texts_of : List (Vec ℕ Global) → List Input
texts_of scripts = inputs_of One scripts

-- the session of a script through a pass: its answers are lawful for a window on the shared desk, from what the pass knew to what it knows then. They go out and aren't kept
pub record IsSession (desk : Sharing) (old : PassState) (script : Input) (new : PassState) (ended : Result ℕ ServeFault) : Type 0 where
  pub left : Option (List ℕ)
  pub last : Session
  pub session : Serves (answering_in script.lines window_counting) run_bounds script.bytes left None None (Idle, record { desk = desk; pass = old }) (last, record { desk = desk; pass = new }) ended
  pub unbroken : is_write_failed ended ≡ false

-- the script was served to its end for that planner, by a pass of the shared desk that began where the desk was shared. What the pass had seen at the end, all commits of the script among it, begins the entries, which have no others of that planner
pub record IsServed (shared : Sharing) (start : DeskState) (entries : List Entry) (planner : ℕ) (script : Input) : Type 0 where
  pub old : PassState
  pub new : PassState
  pub lines : ℕ
  pub begins : old.start ≡ start
  pub nothing_seen : old.made ≡ []
  pub number : old.planner ≡ planner
  pub session : IsSession shared old script new (Ok lines)
  pub seen : IsPrefix new.made entries
  pub own : own_of planner entries ≡ own_of planner new.made

-- each script was, for planners numbered from that one
abbrev pub AreServed : Sharing → DeskState → List Entry → ℕ → List Input → Type 0
AreServed shared start entries planner [] = Unit {0}
AreServed shared start entries planner (script ∷ later) = IsServed shared start entries planner script × AreServed shared start entries (planner + 1) later

-- the pass of each planner, so many from the first one on, was joined
abbrev pub AreJoined : ℕ → ℕ → List (ℕ × List Entry) → Type 0
AreJoined first many past = (number : ℕ) → first ≤ number → number < first + many → Any (λ numbered. numbered.0 ≡ number) past

-- each script was served, for planners numbered from that one, and its pass was joined into the first
abbrev pub HasServed : Sharing → DeskState → PassState → ℕ → List Input → Type 0
HasServed shared start first planner scripts = AreJoined planner (length scripts) first.past × AreServed shared start first.made planner scripts

-- the first pass, while others are joined into it: it has committed nothing, and has seen of each of them the entries that its number has for ever
pub record HasGathered (old new : PassState) : Type 0 where
  pub start : new.start ≡ old.start
  pub planners : new.planners ≡ old.planners
  pub planner : new.planner ≡ old.planner
  pub none_own : own_of new.planner new.made ≡ []
  pub numbered : AreOfPlanners new.planners new.made
  pub kept : All (HasJust new.made) new.past

-- whether the audit's report is the same
abbrev pub same_line : Bool → List ℕ
same_line true = line_text (codes "audit" ∷ codes "same" ∷ [])
same_line false = line_text (codes "audit" ∷ codes "differs" ∷ [])

-- the version, the report's text, and whether the audit's is the same
abbrev pub drill_text : Reading → Bool → List ℕ
drill_text reading same = reported_text reading.version reading.report ++ same_line same

-- the last reading through a pass of the shared desk, and the desk at the end of its sharing: the reading is of a journal that goes on from what the pass had seen, and the desk's goes on from that one
pub record IsEnd (pass : PassState) (reading : Reading) (desk : DeskState) : Type 0 where
  pub read : PassState
  pub shown : AsksBy pass (λ state. ShowsReport state reading) read
  pub closed : IsDeskAtClose read desk

-- the reading, and the desk at the end of its sharing, are of these entries and of no others
pub record AreOfEntries (start : DeskState) (entries : List Entry) (reading : Reading) (desk : DeskState) : Type 0 where
  pub legal : IsLegal start entries
  pub within : version_at start entries ≤ start.limit
  pub shown : ShowsReport (after start entries) reading
  pub closed : desk ≡ after start entries

-- what a drill comes to: every script was served on one shared desk, that of the scene. The first pass has then seen all the scripts' commits and no others: none of its own, 0, and each of one of the scripts' planners. The reading, through it, and the desk as it was closed are of just these, and the audit is of that desk
pub record ComesTo (map : List ℕ) (scen : Option (List ℕ)) (agents : ℕ) (mode : Mode) (scripts : List Input) (reading : Reading) (same : Bool) : Type 0 where
  pub scene : SceneState
  pub opens : Opens map scen agents mode scene
  pub shared : Sharing
  pub first : Held
  pub owned : Owns shared first
  pub begins : first.known.start ≡ opening scene MOST_ENTRIES
  pub planner : first.known.planner ≡ 0
  pub none_own : own_of 0 first.known.made ≡ []
  pub numbered : AreOfPlanners (length scripts + 1) first.known.made
  pub served : AreServed shared (opening scene MOST_ENTRIES) first.known.made 1 scripts
  pub desk : DeskState
  pub ended : AreOfEntries (opening scene MOST_ENTRIES) first.known.made reading desk
  pub audited : Report
  pub told : IsReportOf desk.scene.grid desk.scene.mode desk.scene.rows audited
  pub answer : IsTrue same ↔ (reading.report ≡ audited)

-- a drill that comes to its end: what it comes to is written whole
pub record Drills (map : List ℕ) (scen : Option (List ℕ)) (agents : ℕ) (mode : Mode) (scripts : List Input) (held0 held1 : Option (List ℕ)) (same : Bool) : Type 0 where
  pub reading : Reading
  pub comes_to : ComesTo map scen agents mode scripts reading same
  pub written : Appends held0 held1 (drill_text reading same)
