-- Planners hosted over one shared desk: their sessions, each in a thread of its own, the operator's, and the desk as it was closed (this project's choice).
use Rattle.std.specs.Prelude.{◌≡◌, ◌↔◌, IsTrue, IfOk, ℕ, ◌+◌, ◌<◌, ◌≤◌, Bool, List, [], ◌∷◌, length, All, Result}
use mathlib.Core.List.{IsPrefix}
use Rattle.desk_report.specs.Report.{IsReportOf}
use Rattle.desk_report.specs.declared.reports.Report.{Report}
use Rattle.desk_commits.specs.Entries.{Entry}
use Rattle.desk_commits.specs.Questions.{ShowsReport}
use Rattle.desk_commits.specs.Replays.{IsLegal}
use Rattle.desk_commits.specs.State.{DeskState, after}
use Rattle.desk_commits.specs.declared.answers.Reading.{Reading}
use Rattle.desk_shared.specs.Passes.{PassState, Held, Sharing, Owns, own_of, version_at, AreOfPlanners, HasJust}
use Rattle.desk_shared.specs.Windows.{window_counting, window_on}
use Rattle.shared_runs.specs.Drills.{AreJoined}
use Rattle.solver_check.specs.Inputs.{Input}
use Rattle.solver_check.specs.Seats.{Sits}
use Rattle.shared_runs.specs.declared.hosts.hosting.HostEnd.{HostEnd}
use Rattle.solver_check.specs.declared.seats.HostFault.{HostFault}
use Rattle.solver_check.specs.declared.seats.HostFault.TheVariants.{TooManyPlanners, PassLost, OutOfMemory}
use Rattle.shared_runs.specs.declared.hosts.hosting.TheConstants.{MOST_HOSTED}
use Rattle.solver_check.specs.declared.seats.SeatFault.{SeatFault}

-- what each planner writes, by its number
abbrev pub Inputs : Type 0
Inputs = ℕ → Input

-- a seat over a window on the shared desk, from one pass to the other, and what came of it
pub record IsEnded (shared : Sharing) (input : Input) (old new : Held) (outcome : Result ℕ SeatFault) : Type 0 where
  pub owned : Owns shared new
  pub sat : Sits window_counting input (window_on shared old) (window_on shared new) outcome

-- the outcome is that of the planner's seat, over a pass of the shared desk that began where the desk was shared. What the pass had seen at the end, all commits of the planner among it, begins the entries, which have no others of that planner
pub record IsSeated (shared : Sharing) (inputs : Inputs) (start : DeskState) (entries : List Entry) (planner : ℕ) (outcome : Result ℕ SeatFault) : Type 0 where
  pub old : Held
  pub new : Held
  pub begins : old.known.start ≡ start
  pub nothing_seen : old.known.made ≡ []
  pub number : old.known.planner ≡ planner
  pub sat : Sits window_counting (inputs planner) (window_on shared old) (window_on shared new) outcome
  pub seen : IsPrefix new.known.made entries
  pub own : own_of planner entries ≡ own_of planner new.known.made

-- each outcome is, of planners numbered from that one
abbrev pub AreSeated : Sharing → Inputs → DeskState → List Entry → ℕ → List (Result ℕ SeatFault) → Type 0
AreSeated shared inputs start entries planner [] = Unit {0}
AreSeated shared inputs start entries planner (outcome ∷ later) = IsSeated shared inputs start entries planner outcome × AreSeated shared inputs start entries (planner + 1) later

-- the operator's pass, once the passes of the planners, numbered from that one, were joined into it: it has seen of each of them the entries that its number has for ever
pub record HasHosted (shared : Sharing) (inputs : Inputs) (old new : PassState) (first : ℕ) (outcomes : List (Result ℕ SeatFault)) (operator : Result ℕ SeatFault) : Type 0 where
  pub start : new.start ≡ old.start
  pub planners : new.planners ≡ old.planners
  pub planner : new.planner ≡ old.planner
  pub kept : All (HasJust new.made) new.past
  pub joined : AreJoined first (length outcomes) new.past
  pub served : IsSeated shared inputs old.start new.made 0 operator
  pub seated : AreSeated shared inputs old.start new.made first outcomes

-- the audit's report of the desk's scene is the one that the desk shows
pub record IsCompared (desk : DeskState) (same : Bool) : Type 0 where
  pub reading : Reading
  pub shown : ShowsReport desk reading
  pub audited : Report
  pub told : IsReportOf desk.scene.grid desk.scene.mode desk.scene.rows audited
  pub answer : IsTrue same ↔ (reading.report ≡ audited)

-- so many planners and the operator, hosted over one shared desk that begins so. The desk that was closed has gone on by legal entries, each of one of them, and of each of them just those that its own pass had seen of it
pub record Hosts (inputs : Inputs) (start : DeskState) (planners : ℕ) (end : HostEnd) : Type 0 where
  pub shared : Sharing
  pub entries : List Entry
  pub legal : IsLegal start entries
  pub within : version_at start entries ≤ start.limit
  pub numbered : AreOfPlanners (planners + 1) entries
  pub operator : IsSeated shared inputs start entries 0 end.operator
  pub all_told : length end.planners.items ≡ planners
  pub seated : AreSeated shared inputs start entries 1 end.planners.items
  pub closed : end.desk ≡ after start entries
  pub compared : IfOk end.same (IsCompared end.desk)

-- why so many planners, and the pass of a log beside them where there is one, aren't hosted to their end: too many are told before all else
abbrev pub IsHostFault : ℕ → HostFault → Type 0
IsHostFault many TooManyPlanners = MOST_HOSTED < many
IsHostFault many PassLost = many ≤ MOST_HOSTED
IsHostFault many OutOfMemory = many ≤ MOST_HOSTED
