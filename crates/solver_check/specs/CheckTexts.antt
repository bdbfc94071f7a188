-- The text of a verdict (this project's choice).
use Rattle.std.specs.Prelude.{ℕ, Bool, true, false, List, [], ◌∷◌, ◌++◌, length, codes, count_by}
use Rattle.std.specs.List.{flat_map}
use Rattle.mapf_rules.specs.ConflictList.{kind_of}
use Rattle.mapf_rules.specs.declared.entries.Conflict.{Conflict}
use Rattle.desk_report.specs.LineText.{line_text, answer_text}
use Rattle.desk_report.specs.ReportText.{count_line, report_text, totals_text}
use Rattle.mapf_rules.specs.Kinds.{is_named}
use Rattle.mapf_rules.specs.declared.kinds.Kinds.{Kinds}
use Rattle.desk_report.specs.declared.reports.AgentLine.{AgentLine}
use Rattle.desk_report.specs.declared.reports.Report.{Report}
use Rattle.session_protocol.specs.Replies.{version_line}
use Rattle.solver_check.specs.FindingTexts.{difference_line, repeated_line, wrong_line}
use Rattle.solver_check.specs.declared.checks.differences.Difference.{Difference}
use Rattle.solver_check.specs.declared.checks.judging.Verdict.{Verdict}
use Rattle.solver_check.specs.declared.checks.judging.Verdict.TheVariants.{NoPaths, Repeated, Wrong, Judged}
use Rattle.solver_check.specs.declared.checks.wrongs.Wrong as wrongs

-- how many of the agents are finished
abbrev pub count_finished : List AgentLine → ℕ
count_finished lines = count_by (λ line. line.finished) lines

-- how many of the entries are of a kind that is asked about
abbrev pub count_named : Kinds → List Conflict → ℕ
count_named kinds entries = count_by (λ entry. is_named kinds (kind_of entry)) entries

abbrev pub kind_line : List ℕ → Kinds → List Conflict → List ℕ
kind_line name kinds entries = count_line name (count_named kinds entries)

abbrev pub no_kinds : Kinds
no_kinds = record { vertex = false; edge = false; follow = false; swap = false; cycle = false }

-- how many entries there are of each kind that can be asked about: `vertex` counts Vertex and Parked entries
unfoldable pub kinds_text : List Conflict → List ℕ
kinds_text entries =
    kind_line (codes "vertex") (record no_kinds { vertex = true }) entries
    ++ kind_line (codes "edge") (record no_kinds { edge = true }) entries
    ++ kind_line (codes "follow") (record no_kinds { follow = true }) entries
    ++ kind_line (codes "swap") (record no_kinds { swap = true }) entries
    ++ kind_line (codes "cycle") (record no_kinds { cycle = true }) entries

-- a report without its lists: how long they are, how many agents are finished, and the totals
abbrev pub quiet_text : Report → List ℕ
quiet_text report =
    count_line (codes "agents") (length report.lines)
    ++ count_line (codes "finished") (count_finished report.lines)
    ++ count_line (codes "conflicts") (length report.conflicts)
    ++ kinds_text report.conflicts
    ++ count_line (codes "blocked") (length report.visits)
    ++ totals_text report

-- the report, quiet or whole
abbrev pub body_text : Bool → Report → List ℕ
body_text true report = quiet_text report
body_text false report = report_text report

-- version 0, the report, and where the text of paths differs from the problem
abbrev pub report_body : Bool → Report → List Difference → List ℕ
report_body quiet report differences = version_line 0 ++ body_text quiet report ++ flat_map difference_line differences

-- the paths that aren't any, and where their text differs
abbrev pub wrong_body : List wrongs.Wrong → List Difference → List ℕ
wrong_body wrongs differences = flat_map wrong_line wrongs ++ flat_map difference_line differences

-- what a verdict says before its answer
abbrev pub findings_text : Bool → Verdict → List ℕ
findings_text quiet NoPaths = line_text (codes "no" ∷ codes "paths" ∷ [])
findings_text quiet (Repeated line) = repeated_line line
findings_text quiet (Wrong wrongs differences) = wrong_body wrongs differences
findings_text quiet (Judged report differences solved) = report_body quiet report differences

-- its answer: whether the paths solve the problem
abbrev pub says_yes : Verdict → Bool
says_yes NoPaths = false
says_yes (Repeated line) = false
says_yes (Wrong wrongs differences) = false
says_yes (Judged report differences solved) = solved

abbrev pub verdict_line : Bool → List ℕ
verdict_line solved = line_text (codes "solves" ∷ answer_text solved ∷ [])

-- what it says, and its answer
abbrev pub check_text : Bool → Verdict → List ℕ
check_text quiet verdict = findings_text quiet verdict ++ verdict_line (says_yes verdict)
