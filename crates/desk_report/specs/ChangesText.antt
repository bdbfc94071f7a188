-- The text of what changed from one report to a later one (this project's choice of lines and of their order).
use Rattle.std.specs.Prelude.{ℕ, List, [], ◌∷◌, ◌++◌, codes, decimal}
use Rattle.std.specs.List.{flat_map}
use Rattle.mapf_rules.specs.declared.entries.Conflict.{Conflict}
use Rattle.mapf_rules.specs.declared.visits.Visit.{Visit}
use Rattle.desk_report.specs.LineText.{line_text}
use Rattle.desk_report.specs.EntryText.{entry_line}
use Rattle.desk_report.specs.ReportText.{count_line, agent_line, visit_line, totals_text}
use Rattle.desk_report.specs.declared.changed.Changes.{Changes}

-- the line of what went
abbrev pub gone_line : List ℕ → List ℕ
gone_line line = codes "gone " ++ line

-- an agent that went
abbrev pub name_line : ℕ → List ℕ
name_line agent = line_text (codes "agent" ∷ decimal agent ∷ [])

-- how many there are now, those that went, those that came
abbrev pub changed_text : {X Y : Type 0} → List ℕ → ℕ → (X → List ℕ) → List X → (Y → List ℕ) → List Y → List ℕ
changed_text name count gone_text gone came_text came = count_line name count ++ (flat_map (λ x. gone_line (gone_text x)) gone ++ flat_map came_text came)

-- since which version, the three lists, and the later report's totals
abbrev pub since_text : ℕ → Changes → List ℕ
since_text since changes =
    count_line (codes "since") since
    ++ (changed_text (codes "agents") changes.agents name_line changes.gone_agents agent_line changes.came.lines
    ++ (changed_text (codes "conflicts") changes.conflicts entry_line changes.gone_conflicts entry_line changes.came.conflicts
    ++ (changed_text (codes "blocked") changes.blocked visit_line changes.gone_visits visit_line changes.came.visits
    ++ totals_text changes.came)))

-- what changed up to the present version
abbrev pub changes_text : ℕ → ℕ → Changes → List ℕ
changes_text version since changes = count_line (codes "version") version ++ since_text since changes

-- what would change by a commit that would be that version
abbrev pub trial_text : ℕ → ℕ → Changes → List ℕ
trial_text version since changes = count_line (codes "would") version ++ since_text since changes
