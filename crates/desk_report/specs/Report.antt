-- What a report says of a map, a mode and the rows of a table.
use Rattle.std.specs.Prelude.{◌≡◌, ◌↔◌, ℕ, ◌-◌, Option, Some, List, IsTrue, unwrap_or, map}
use Rattle.std.specs.Option.{SomeIff}
use Rattle.grid_cells.specs.Cell.{Point}
use Rattle.grid_cells.specs.Grid.{Chart}
use Rattle.grid_cells.specs.Walks.{IsDistance}
use Rattle.plan_table.specs.Path.{place}
use Rattle.plan_table.specs.Order.{EachOf}
use Rattle.plan_table.specs.Route.{tracks_of}
use Rattle.plan_table.specs.declared.plans.Row.{Row}
use Rattle.plan_table.specs.declared.tracks.Mode.{Mode}
use Rattle.mapf_rules.specs.ConflictList.{AreConflicts}
use Rattle.mapf_rules.specs.Costs.{IsSettleTime, IsFinished, IsSumOf, IsSumOfCosts, IsMakespan}
use Rattle.mapf_rules.specs.Visits.{AreVisits, IsUnblocked}
use Rattle.desk_report.specs.declared.reports.AgentLine.{AgentLine}
use Rattle.desk_report.specs.declared.reports.Report.{Report}

-- the lower bound of an agent: the distance from its start to its goal (Stern et al. 2019, single-agent shortest path)
pub record IsBound (grid : Chart) (row : Row) (bound : Option ℕ) : Type 0 where
  pub start : Point
  pub starts : place row.plan 0 ≡ Some start
  pub distance : IsDistance grid start row.goal bound

-- the lower bounds of the agents, in their order
abbrev pub AreBounds : Chart → List (ℕ × Row) → List (Option ℕ) → Type 0
AreBounds grid rows bounds = EachOf (λ entry bound. IsBound grid entry.1 bound) rows bounds

-- the line of an agent. The gap is what the settle time has above the bound, for a finished agent with no blocked visit
-- (this project's choice)
pub record IsLine (grid : Chart) (entry : ℕ × Row) (line : AgentLine) : Type 0 where
  pub agent : line.agent ≡ entry.0
  pub settle : IsSettleTime entry.1.plan line.settle
  pub finished : IsTrue line.finished ↔ IsFinished entry.1
  pub bound : IsBound grid entry.1 line.bound
  pub gap : SomeIff line.gap (IsFinished entry.1 × IsUnblocked grid entry.1.plan) (line.settle - unwrap_or line.bound 0)

-- the lines of the agents, in their order
abbrev pub AreLines : Chart → List (ℕ × Row) → List AgentLine → Type 0
AreLines grid rows lines = EachOf (IsLine grid) rows lines

-- the report of a map, a mode and a table: each of its parts is what its definition says (this project's choice of parts)
pub record IsReportOf (grid : Chart) (mode : Mode) (rows : List (ℕ × Row)) (report : Report) : Type 0 where
  pub conflicts : AreConflicts (tracks_of mode rows) report.conflicts
  pub visits : AreVisits grid rows report.visits
  pub lines : AreLines grid rows report.lines
  pub sum : IsSumOfCosts rows report.sum
  pub makespan : IsMakespan rows report.makespan
  pub bounds : IsSumOf (map (λ line. line.bound) report.lines) report.bounds
  pub total_gap : IsSumOf (map (λ line. line.gap) report.lines) report.total_gap
