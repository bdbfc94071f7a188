-- A report cut to some agents: what names one of them, and the totals of all (this project's choice of what is told of some agents).
use Rattle.std.specs.Prelude.{◌≡◌, ℕ, Bool, ◌||◌, nat_eq, List, filter}
use Rattle.std.specs.List.{list_any}
use Rattle.grid_cells.specs.Grid.{Chart}
use Rattle.plan_table.specs.declared.plans.Row.{Row}
use Rattle.plan_table.specs.declared.tracks.Mode.{Mode}
use Rattle.mapf_rules.specs.declared.entries.Conflict.{Conflict}
use Rattle.mapf_rules.specs.declared.entries.Conflict.TheVariants.{Vertex, Parked, Edge, Following, Swapping, Cycle}
use Rattle.desk_report.specs.Report.{IsReportOf}
use Rattle.desk_report.specs.declared.reports.Report.{Report}

-- the agent is one of those
abbrev pub is_one : List ℕ → ℕ → Bool
is_one agents agent = list_any (λ one. nat_eq one agent) agents

-- the entry names one of those agents
abbrev pub names_one : List ℕ → Conflict → Bool
names_one agents (Vertex time first second cell) = is_one agents first || is_one agents second
names_one agents (Parked time first second cell) = is_one agents first || is_one agents second
names_one agents (Edge time first second cell next) = is_one agents first || is_one agents second
names_one agents (Following time follower leader cell) = is_one agents follower || is_one agents leader
names_one agents (Swapping time first second cell other) = is_one agents first || is_one agents second
names_one agents (Cycle time ring) = list_any (is_one agents) ring

-- of each list of the whole report what names one of those agents, in its order, and the totals of the whole report
pub record IsCut (agents : List ℕ) (whole cut : Report) : Type 0 where
  pub conflicts : cut.conflicts ≡ filter (names_one agents) whole.conflicts
  pub visits : cut.visits ≡ filter (λ visit. is_one agents visit.agent) whole.visits
  pub lines : cut.lines ≡ filter (λ line. is_one agents line.agent) whole.lines
  pub sum : cut.sum ≡ whole.sum
  pub makespan : cut.makespan ≡ whole.makespan
  pub bounds : cut.bounds ≡ whole.bounds
  pub total_gap : cut.total_gap ≡ whole.total_gap

-- the cut of the report of a map, a mode and a table, which there is
pub record IsCutOf (grid : Chart) (mode : Mode) (rows : List (ℕ × Row)) (agents : List ℕ) (cut : Report) : Type 0 where
  pub whole : Report
  pub is_report : IsReportOf grid mode rows whole
  pub is_cut : IsCut agents whole cut
