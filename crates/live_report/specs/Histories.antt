-- What is kept of what came to a report's lists and went from them, by version (this project's choice).
use Rattle.std.specs.Prelude.{◌≡◌, ℕ, ◌+◌, ◌-◌, ◌<◌, ◌≤◌, List, [], true, IsTrue, length, drop}
use Rattle.change_history.specs.declared.records.Record.{Record}
use Rattle.change_history.specs.Moved.{AreApart}
use Rattle.change_history.specs.Logged.{joined, Logs, LeadSince}
use Rattle.mapf_rules.specs.declared.entries.Conflict.{Conflict}
use Rattle.mapf_rules.specs.declared.visits.Visit.{Visit}
use Rattle.desk_report.specs.declared.reports.AgentLine.{AgentLine}
use Rattle.desk_report.specs.declared.reports.Report.{Report}
use Rattle.live_report.specs.declared.turnovers.Turnover.{Turnover}

-- the records of each list, by version, and how many there may be in all
pub record HistoryState : Type 0 where
  pub conflicts : List (List (Record Conflict))
  pub visits : List (List (Record Visit))
  pub lines : List (List (Record AgentLine))
  pub most : ℕ

-- each list has as many versions
abbrev pub AreEven : List (List (Record Conflict)) → List (List (Record Visit)) → List (List (Record AgentLine)) → Type 0
AreEven conflicts visits lines = (length visits ≡ length conflicts) × (length lines ≡ length conflicts)

-- how many versions are kept
abbrev pub versions_in : HistoryState → ℕ
versions_in history = length history.conflicts

-- how many elements came and went in them
abbrev pub records_in : HistoryState → ℕ
records_in history = length (joined history.conflicts) + length (joined history.visits) + length (joined history.lines)

-- without so many of the oldest versions
abbrev pub without : ℕ → HistoryState → HistoryState
without count history = record history { conflicts = drop count history.conflicts; visits = drop count history.visits; lines = drop count history.lines }

-- what came and went is followed
pub record IsFollowed (turnover : Turnover) : Type 0 where
  pub conflicts : IsTrue turnover.conflicts.followed
  pub visits : IsTrue turnover.visits.followed
  pub lines : IsTrue turnover.lines.followed

-- it is followed, and nothing came or went
pub record IsNone (turnover : Turnover) : Type 0 where
  pub conflicts : turnover.conflicts ≡ record { followed = true; came = []; gone = [] }
  pub visits : turnover.visits ≡ record { followed = true; came = []; gone = [] }
  pub lines : turnover.lines ≡ record { followed = true; came = []; gone = [] }

-- there is one version more
pub record Grows (old : HistoryState) (turnover : Turnover) (new : HistoryState) : Type 0 where
  pub conflicts : Logs old.conflicts turnover.conflicts.came turnover.conflicts.gone new.conflicts
  pub visits : Logs old.visits turnover.visits.came turnover.visits.gone new.visits
  pub lines : Logs old.lines turnover.lines.came turnover.lines.gone new.lines
  pub most : new.most ≡ old.most

-- there is one version more, and the oldest are forgotten: as many as have to be
pub record Keeps (old : HistoryState) (turnover : Turnover) (new : HistoryState) : Type 0 where
  pub grown : HistoryState
  pub grows : Grows old turnover grown
  pub lost : ℕ
  pub left : new ≡ without lost grown
  pub within : records_in new ≤ new.most
  pub needed : 0 < lost → grown.most < records_in (without (lost - 1) grown)

-- what came and went from a version on, wherever the records lead
pub record TellsSince (history : HistoryState) (version : ℕ) (turnover : Turnover) : Type 0 where
  pub conflicts : (old new : List Conflict) → LeadSince history.conflicts version old new → AreApart old new turnover.conflicts.came turnover.conflicts.gone
  pub visits : (old new : List Visit) → LeadSince history.visits version old new → AreApart old new turnover.visits.came turnover.visits.gone
  pub lines : (old new : List AgentLine) → LeadSince history.lines version old new → AreApart old new turnover.lines.came turnover.lines.gone

-- the records from that place on lead from each list of the one report to that of the other
pub record LeadReports (history : HistoryState) (place : ℕ) (old new : Report) : Type 0 where
  pub conflicts : LeadSince history.conflicts place old.conflicts new.conflicts
  pub visits : LeadSince history.visits place old.visits new.visits
  pub lines : LeadSince history.lines place old.lines new.lines

-- the versions kept are those after the first up to the present one, each of which has a report; and from the report of each of these the
-- records lead to the present one
pub record Recounts (reports : ℕ → Report → Type 0) (first now : ℕ) (history : HistoryState) : Type 0 where
  pub versions : first + versions_in history ≡ now
  pub even : AreEven history.conflicts history.visits history.lines
  pub there : (version : ℕ) → first ≤ version → version ≤ now → (report : Report) × reports version report
  pub lead : (version : ℕ) (old new : Report) → first ≤ version → version ≤ now → reports version old → reports now new → LeadReports history (version - first) old new
