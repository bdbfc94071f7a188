-- When a report says that the plans solve the problem (this project's choice: by the kinds that are asked about).
use Rattle.std.specs.Prelude.{◌≡◌, ◌↔◌, ℕ, Bool, List, [], All, IsTrue}
use Rattle.grid_cells.specs.Grid.{Chart}
use Rattle.plan_table.specs.declared.plans.Row.{Row}
use Rattle.plan_table.specs.declared.tracks.Mode.{Mode}
use Rattle.mapf_rules.specs.ConflictList.{kind_of}
use Rattle.mapf_rules.specs.Kinds.{is_named}
use Rattle.mapf_rules.specs.declared.kinds.Kinds.{Kinds}
use Rattle.desk_report.specs.Report.{IsReportOf}
use Rattle.desk_report.specs.declared.reports.Report.{Report}

-- every agent is finished, no visit is blocked, and no conflict is of a kind that is asked about
pub record Solves (report : Report) (kinds : Kinds) : Type 0 where
  pub finished : All (λ line. IsTrue line.finished) report.lines
  pub unblocked : report.visits ≡ []
  pub free : All (λ entry. IsTrue (is_named kinds (kind_of entry)) → ⊥) report.conflicts

-- the answer for the report of a map, a mode and a table, which there is
pub record IsVerdict (grid : Chart) (mode : Mode) (rows : List (ℕ × Row)) (kinds : Kinds) (answer : Bool) : Type 0 where
  pub report : Report
  pub is_report : IsReportOf grid mode rows report
  pub says : IsTrue answer ↔ Solves report kinds
