-- The agents' lines that books keep (this project's choice).
use Rattle.std.specs.Prelude.{◌≡◌, ◌↔◌, ℕ, ◌-◌, Option, List, All, IsTrue, IfSome, unwrap_or}
use Rattle.std.specs.Option.{SomeIff}
use Rattle.grid_cells.specs.Grid.{Chart}
use Rattle.grid_cells.specs.Size.{Holds}
use Rattle.plan_table.specs.Order.{EachOf}
use Rattle.plan_table.specs.Plans.{row_of, IsByAgent}
use Rattle.plan_table.specs.declared.plans.Row.{Row}
use Rattle.mapf_rules.specs.Costs.{IsSettleTime, IsFinished}
use Rattle.mapf_rules.specs.Visits.{AreVisits}
use Rattle.mapf_rules.specs.declared.visits.Visit.{Visit}
use Rattle.desk_report.specs.Report.{IsBound}
use Rattle.desk_report.specs.declared.reports.AgentLine.{AgentLine}
use Rattle.live_report.specs.Prices.{Rows}
use Rattle.live_report.specs.Rows.{HavePathsOn}

-- the line of an agent as if no visit of it were blocked: each finished agent has a gap. The bound is that of a path on the map
pub record IsOpenLine (grid : Chart) (entry : ℕ × Row) (line : AgentLine) : Type 0 where
  pub agent : line.agent ≡ entry.0
  pub settle : IsSettleTime entry.1.plan line.settle
  pub finished : IsTrue line.finished ↔ IsFinished entry.1
  pub bound : All (Holds grid.size) entry.1.plan → IsBound grid entry.1 line.bound
  pub gap : SomeIff line.gap (IsFinished entry.1) (line.settle - unwrap_or line.bound 0)

-- the lines of a table's agents, in their order, as if no visit were blocked
abbrev pub AreOpenLines : Chart → List (ℕ × Row) → List AgentLine → Type 0
AreOpenLines grid table lines = EachOf (IsOpenLine grid) table lines

-- the lines are those of the agents that have those rows
pub record AreLinesOf (grid : Chart) (rows : Rows) (lines : List AgentLine) : Type 0 where
  pub table : List (ℕ × Row)
  pub by_agent : IsByAgent table
  pub same : (agent : ℕ) → row_of table agent ≡ rows agent
  pub are : AreOpenLines grid table lines

-- where lines stand, they are those of the agents that have those rows
abbrev pub WhereLinesStand : Chart → Rows → Option (List AgentLine) → Type 0
WhereLinesStand grid rows lines = IfSome lines (AreLinesOf grid rows)

-- a line for each row of the table, of its agent
abbrev pub GoWith : List (ℕ × Row) → List AgentLine → Type 0
GoWith table lines = EachOf (λ entry line. line.agent ≡ entry.0) table lines

-- a table in order, each path of which is on the map, and its blocked visits
pub record AreBlockedIn (grid : Chart) (table : List (ℕ × Row)) (visits : List Visit) : Type 0 where
  pub by_agent : IsByAgent table
  pub on : HavePathsOn grid table
  pub are : AreVisits grid table visits
