-- The text of a report (this project's choice of lines and of their order).
use Rattle.std.specs.Prelude.{ℕ, List, [], ◌∷◌, ◌++◌, Option, length, codes, decimal}
use Rattle.std.specs.List.{flat_map}
use Rattle.mapf_rules.specs.declared.entries.Conflict.{Conflict}
use Rattle.mapf_rules.specs.declared.visits.Visit.{Visit}
use Rattle.desk_report.specs.LineText.{line_text, cell_text, given_text, answer_text}
use Rattle.desk_report.specs.EntryText.{entry_line}
use Rattle.desk_report.specs.declared.reports.AgentLine.{AgentLine}
use Rattle.desk_report.specs.declared.reports.Report.{Report}

-- how many there are
abbrev pub count_line : List ℕ → ℕ → List ℕ
count_line name count = line_text (name ∷ decimal count ∷ [])

-- a total, or `none`
abbrev pub total_line : List ℕ → Option ℕ → List ℕ
total_line name total = line_text (name ∷ given_text total ∷ [])

-- one agent: its settle time, whether it is finished, its bound and its gap
abbrev pub agent_line : AgentLine → List ℕ
agent_line line = line_text (codes "agent" ∷ decimal line.agent ∷ codes "settle" ∷ decimal line.settle ∷ codes "goal" ∷ answer_text line.finished ∷ codes "bound" ∷ given_text line.bound ∷ codes "gap" ∷ given_text line.gap ∷ [])

-- one blocked visit: the agent, the time, the closed cell
abbrev pub visit_line : Visit → List ℕ
visit_line visit = line_text (codes "visit" ∷ decimal visit.agent ∷ decimal visit.time ∷ cell_text visit.cell ∷ [])

-- the agents, the conflicts and the blocked visits, each list after a line with its length
abbrev pub agents_text : List AgentLine → List ℕ
agents_text lines = count_line (codes "agents") (length lines) ++ flat_map agent_line lines

abbrev pub conflicts_text : List Conflict → List ℕ
conflicts_text entries = count_line (codes "conflicts") (length entries) ++ flat_map entry_line entries

abbrev pub visits_text : List Visit → List ℕ
visits_text visits = count_line (codes "blocked") (length visits) ++ flat_map visit_line visits

-- the totals, and the end
abbrev pub totals_text : Report → List ℕ
totals_text report = total_line (codes "sum") report.sum ++ total_line (codes "makespan") report.makespan ++ total_line (codes "bounds") report.bounds ++ total_line (codes "gap") report.total_gap ++ line_text (codes "end" ∷ [])

-- the lists, and then the totals
abbrev pub report_text : Report → List ℕ
report_text report = agents_text report.lines ++ conflicts_text report.conflicts ++ visits_text report.visits ++ totals_text report
