-- The text of a verdict as one JSON object (RFC 8259; which members it has is this project's choice).
use Rattle.std.specs.Prelude.{ℕ, Bool, true, false, List, [], ◌∷◌, ◌++◌, Option, Some, None, codes, decimal}
use Rattle.std.specs.List.{flat_map}
use Rattle.grid_cells.specs.Cell.{Point}
use Rattle.mapf_rules.specs.declared.entries.Conflict.{Conflict}
use Rattle.mapf_rules.specs.declared.entries.Conflict.TheVariants.{Vertex, Parked, Edge, Following, Swapping, Cycle}
use Rattle.mapf_rules.specs.declared.kinds.Kinds.{Kinds}
use Rattle.mapf_rules.specs.declared.visits.Visit.{Visit}
use Rattle.desk_report.specs.LineText.{cell_text}
use Rattle.desk_report.specs.declared.reports.AgentLine.{AgentLine}
use Rattle.desk_report.specs.declared.reports.Report.{Report}
use Rattle.solver_check.specs.CheckTexts.{says_yes}
use Rattle.solver_check.specs.declared.checks.differences.Difference.{Difference}
use Rattle.solver_check.specs.declared.checks.differences.Difference.TheVariants.{Paths, Agents, Starts, Goals, Start, Goal}
use Rattle.solver_check.specs.declared.checks.json.counts.Counts.{Counts}
use Rattle.solver_check.specs.declared.checks.judging.Verdict.{Verdict}
use Rattle.solver_check.specs.declared.checks.judging.Verdict.TheVariants as verdict
use Rattle.solver_check.specs.declared.checks.wrongs.Wrong.{Wrong}
use Rattle.solver_check.specs.declared.checks.wrongs.Wrong.TheVariants.{TooLong, OutOfMap, NotFromStart, NotAStep}

-- the parts, end to end
abbrev pub joined : List (List ℕ) → List ℕ
joined parts = flat_map (λ part. part) parts

-- a number, or `null` where it is not given
abbrev pub given_json : Option ℕ → List ℕ
given_json (Some number) = decimal number
given_json None = codes "null"

abbrev pub answer_json : Bool → List ℕ
answer_json true = codes "true"
answer_json false = codes "false"

-- the items, with a comma between each two
abbrev pub items_json : {X : Type 0} → (X → List ℕ) → List X → List ℕ
items_json of [] = []
items_json of (item ∷ items) = of item ++ flat_map (λ other. 44 ∷ of other) items

-- a list, and what stands before its items
abbrev pub list_json : {X : Type 0} → List ℕ → (X → List ℕ) → List X → List ℕ
list_json front of items = front ++ items_json of items ++ codes "]"

-- one agent: its settle time, whether it is finished, its bound and its gap
abbrev pub agent_json : AgentLine → List ℕ
agent_json line =
    joined (codes "{\"agent\":" ∷ decimal line.agent ∷ codes ",\"settle\":" ∷ decimal line.settle ∷ codes ",\"finished\":" ∷ answer_json line.finished ∷
    codes ",\"bound\":" ∷ given_json line.bound ∷ codes ",\"gap\":" ∷ given_json line.gap ∷ codes "}" ∷ [])

-- two agents in one cell, or one that follows the other into it
abbrev pub pair_json : List ℕ → ℕ → ℕ → ℕ → Point → List ℕ
pair_json kind time first second cell =
    joined (codes "{\"kind\":\"" ∷ kind ∷ codes "\",\"time\":" ∷ decimal time ∷ codes ",\"agents\":[" ∷ decimal first ∷ codes "," ∷ decimal second ∷
    codes "],\"cells\":[[" ∷ cell_text cell ∷ codes "]]}" ∷ [])

-- two agents that move between two cells
abbrev pub moves_json : List ℕ → ℕ → ℕ → ℕ → Point → Point → List ℕ
moves_json kind time first second cell other =
    joined (codes "{\"kind\":\"" ∷ kind ∷ codes "\",\"time\":" ∷ decimal time ∷ codes ",\"agents\":[" ∷ decimal first ∷ codes "," ∷ decimal second ∷
    codes "],\"cells\":[[" ∷ cell_text cell ∷ codes "],[" ∷ cell_text other ∷ codes "]]}" ∷ [])

-- the agents of a cycle in their order, and what stands before them
abbrev pub cycle_front : ℕ → List ℕ
cycle_front time = joined (codes "{\"kind\":\"cycle\",\"time\":" ∷ decimal time ∷ codes ",\"agents\":[" ∷ [])

abbrev pub cycle_json : ℕ → List ℕ → List ℕ
cycle_json time ring = cycle_front time ++ items_json decimal ring ++ codes "],\"cells\":[]}"

abbrev pub entry_json : Conflict → List ℕ
entry_json (Vertex time first second cell) = pair_json (codes "vertex") time first second cell
entry_json (Parked time first second cell) = pair_json (codes "parked") time first second cell
entry_json (Edge time first second cell next) = moves_json (codes "edge") time first second cell next
entry_json (Following time follower leader cell) = pair_json (codes "follow") time follower leader cell
entry_json (Swapping time first second cell other) = moves_json (codes "swap") time first second cell other
entry_json (Cycle time ring) = cycle_json time ring

-- one blocked visit
abbrev pub visit_json : Visit → List ℕ
visit_json visit =
    joined (codes "{\"agent\":" ∷ decimal visit.agent ∷ codes ",\"time\":" ∷ decimal visit.time ∷ codes ",\"cell\":[" ∷ cell_text visit.cell ∷
    codes "]}" ∷ [])

-- the agent, the time, why, and the cell that is too far or isn't on the map, or the due one and the path's
abbrev pub wrong_cell_json : ℕ → ℕ → List ℕ → Point → List ℕ
wrong_cell_json agent time why cell =
    joined (codes "{\"agent\":" ∷ decimal agent ∷ codes ",\"time\":" ∷ decimal time ∷ codes ",\"why\":\"" ∷ why ∷ codes "\",\"cells\":[[" ∷
    cell_text cell ∷ codes "]]}" ∷ [])

abbrev pub wrong_cells_json : ℕ → ℕ → List ℕ → Point → Point → List ℕ
wrong_cells_json agent time why before cell =
    joined (codes "{\"agent\":" ∷ decimal agent ∷ codes ",\"time\":" ∷ decimal time ∷ codes ",\"why\":\"" ∷ why ∷ codes "\",\"cells\":[[" ∷
    cell_text before ∷ codes "],[" ∷ cell_text cell ∷ codes "]]}" ∷ [])

abbrev pub wrong_json : Wrong → List ℕ
wrong_json (TooLong agent time cell) = wrong_cell_json agent time (codes "too-long") cell
wrong_json (OutOfMap agent time cell) = wrong_cell_json agent time (codes "out-of-map") cell
wrong_json (NotFromStart agent start cell) = wrong_cells_json agent 0 (codes "not-from-start") start cell
wrong_json (NotAStep agent time before cell) = wrong_cells_json agent time (codes "not-a-step") before cell

-- how many of something there are, and how many there should be
abbrev pub counted_json : List ℕ → (found due : ℕ) → List ℕ
counted_json what found due = joined (codes "{\"what\":\"" ∷ what ∷ codes "\",\"found\":" ∷ decimal found ∷ codes ",\"due\":" ∷ decimal due ∷ codes "}" ∷ [])

-- an agent's cell in a list, and the due one
abbrev pub listed_json : List ℕ → ℕ → Point → Point → List ℕ
listed_json list agent listed due =
    joined (codes "{\"what\":\"" ∷ list ∷ codes "\",\"agent\":" ∷ decimal agent ∷ codes ",\"found\":[" ∷ cell_text listed ∷ codes "],\"due\":[" ∷
    cell_text due ∷ codes "]}" ∷ [])

abbrev pub difference_json : Difference → List ℕ
difference_json (Paths paths agents) = counted_json (codes "paths") paths agents
difference_json (Agents listed agents) = counted_json (codes "agents") listed agents
difference_json (Starts listed paths) = counted_json (codes "starts") listed paths
difference_json (Goals listed paths) = counted_json (codes "goals") listed paths
difference_json (Start agent listed due) = listed_json (codes "starts") agent listed due
difference_json (Goal agent listed due) = listed_json (codes "goals") agent listed due

-- how many there are of what a report lists
abbrev pub counts_json : Counts → List ℕ
counts_json counts =
    joined (codes ",\"counts\":{\"agents\":" ∷ decimal counts.agents ∷ codes ",\"finished\":" ∷ decimal counts.finished ∷ codes ",\"conflicts\":" ∷
    decimal counts.conflicts ∷ codes ",\"vertex\":" ∷ decimal counts.vertex ∷ codes ",\"edge\":" ∷ decimal counts.edge ∷ codes ",\"follow\":" ∷
    decimal counts.follow ∷ codes ",\"swap\":" ∷ decimal counts.swap ∷ codes ",\"cycle\":" ∷ decimal counts.cycle ∷ codes ",\"blocked\":" ∷
    decimal counts.blocked ∷ codes "}" ∷ [])

abbrev pub totals_json : Report → List ℕ
totals_json report =
    joined (codes ",\"totals\":{\"sum\":" ∷ given_json report.sum ∷ codes ",\"makespan\":" ∷ given_json report.makespan ∷ codes ",\"bounds\":" ∷
    given_json report.bounds ∷ codes ",\"gap\":" ∷ given_json report.total_gap ∷ codes "}" ∷ [])

-- its lists
abbrev pub lists_json : Report → List ℕ
lists_json report =
    list_json (codes ",\"agents\":[") agent_json report.lines
    ++ list_json (codes ",\"entries\":[") entry_json report.conflicts
    ++ list_json (codes ",\"visits\":[") visit_json report.visits

-- which a quiet one hasn't
abbrev pub listed_lists : (quiet : Bool) → Report → List ℕ
listed_lists true report = []
listed_lists false report = lists_json report

-- a report, of which there are so many of each
abbrev pub report_json : (quiet : Bool) → Counts → Report → List ℕ
report_json quiet counts report = (counts_json counts ++ totals_json report) ++ listed_lists quiet report

-- the paths that aren't any, where their text differs from the problem, and the end
abbrev pub findings_json : List Wrong → List Difference → List ℕ
findings_json wrongs differences =
    list_json (codes ",\"wrong\":[") wrong_json wrongs ++ list_json (codes ",\"differs\":[") difference_json differences ++ codes "}\n"

-- the line of the text that has a list for the second time
abbrev pub repeated_json : ℕ → List ℕ
repeated_json line = joined (codes ",\"wrong\":[],\"differs\":[{\"what\":\"line\",\"line\":" ∷ decimal line ∷ codes "}]}\n" ∷ [])

-- what the text of paths comes to
abbrev pub verdict_name : Verdict → List ℕ
verdict_name verdict.NoPaths = codes "no-paths"
verdict_name (verdict.Repeated line) = codes "repeated-list"
verdict_name (verdict.Wrong wrongs differences) = codes "wrong-paths"
verdict_name (verdict.Judged report differences solved) = codes "judged"

-- whether the paths solve the problem, and the kinds that were asked about
abbrev pub head_json : Kinds → Verdict → List ℕ
head_json kinds verdict =
    joined (codes "{\"solves\":" ∷ answer_json (says_yes verdict) ∷ codes ",\"verdict\":\"" ∷ verdict_name verdict ∷ codes "\",\"kinds\":{\"vertex\":" ∷
    answer_json kinds.vertex ∷ codes ",\"edge\":" ∷ answer_json kinds.edge ∷ codes ",\"follow\":" ∷ answer_json kinds.follow ∷ codes ",\"swap\":" ∷
    answer_json kinds.swap ∷ codes ",\"cycle\":" ∷ answer_json kinds.cycle ∷ codes "}" ∷ [])

-- what it says behind these
abbrev pub content_json : (quiet : Bool) → Counts → Verdict → List ℕ
content_json quiet counts verdict.NoPaths = findings_json [] []
content_json quiet counts (verdict.Repeated line) = repeated_json line
content_json quiet counts (verdict.Wrong wrongs differences) = findings_json wrongs differences
content_json quiet counts (verdict.Judged report differences solved) = report_json quiet counts report ++ findings_json [] differences

-- the object, in a line
abbrev pub json_text : (quiet : Bool) → Kinds → Counts → Verdict → List ℕ
json_text quiet kinds counts verdict = head_json kinds verdict ++ content_json quiet counts verdict
