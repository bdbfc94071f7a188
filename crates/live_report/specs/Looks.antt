-- What a report has of some agents, and what books know it by (this project's choice).
use Rattle.std.specs.Prelude.{◌≡◌, ◌⊎◌, ◌↔◌, ℕ, Option, Some, None, List, Contains}
use Rattle.grid_cells.specs.Grid.{Chart}
use Rattle.plan_table.specs.Plans.{row_of}
use Rattle.plan_table.specs.declared.plans.Row.{Row}
use Rattle.cost_ledger.specs.Ledger.{Ledger, StandsForMap}
use Rattle.mapf_rules.specs.Visits.{IsBlocked}
use Rattle.mapf_rules.specs.declared.visits.Visit.{Visit}
use Rattle.desk_report.specs.Laws.{IsPathOn}
use Rattle.desk_report.specs.Report.{IsLine}
use Rattle.desk_report.specs.declared.reports.AgentLine.{AgentLine}
use Rattle.scene_edits.specs.declared.named_agents.Former.{Former}
use Rattle.live_report.specs.Lines.{IsOpenLine, AreLinesOf}
use Rattle.live_report.specs.Prices.{Rows}
use Rattle.live_report.specs.declared.looks.Look.{Look}

-- the line is the one that a report has of its agent
pub record IsLineOf (grid : Chart) (rows : Rows) (line : AgentLine) : Type 0 where
  pub row : Row
  pub live : rows line.agent ≡ Some row
  pub is : IsLine grid (line.agent, row) line

-- the visit is one to a closed cell
pub record IsVisitOf (grid : Chart) (rows : Rows) (visit : Visit) : Type 0 where
  pub row : Row
  pub live : rows visit.agent ≡ Some row
  pub blocked : IsBlocked grid row.plan visit.time visit.cell

-- the lines and the ledger of costs are those of the fleet's rows, whose paths are on the map
pub record AreCurrent (grid : Chart) (fleet : Rows) (told : List AgentLine) (ledger : Ledger) : Type 0 where
  pub lines : AreLinesOf grid fleet told
  pub rows : (agent : ℕ) → row_of ledger.rows agent ≡ fleet agent
  pub costs : StandsForMap ledger grid
  pub paths : (agent : ℕ) (row : Row) → fleet agent ≡ Some row → IsPathOn grid row.plan

-- the line of an agent as if no visit of it were blocked, and none of an agent that isn't there
abbrev pub IsOpenLineAt : Chart → Rows → ℕ → Option AgentLine → Type 0
IsOpenLineAt grid rows agent None = rows agent ≡ None
IsOpenLineAt grid rows agent (Some line) = (row : Row) × (rows agent ≡ Some row) × IsOpenLine grid (agent, row) line

-- the lines and the visits are those of the agents
pub record IsLook (grid : Chart) (rows : Rows) (agents : List ℕ) (look : Look) : Type 0 where
  pub lines : (line : AgentLine) → Contains look.lines.items line ↔ (Contains agents line.agent × IsLineOf grid rows line)
  pub visits : (visit : Visit) → Contains look.visits.items visit ↔ (Contains agents visit.agent × IsVisitOf grid rows visit)

-- and one agent's more
pub record LooksFurther (grid : Chart) (rows : Rows) (agent : ℕ) (old new : Look) : Type 0 where
  pub lines : (line : AgentLine) → Contains new.lines.items line ↔ (Contains old.lines.items line ⊎ ((line.agent ≡ agent) × IsLineOf grid rows line))
  pub visits : (visit : Visit) → Contains new.visits.items visit ↔ (Contains old.visits.items visit ⊎ ((visit.agent ≡ agent) × IsVisitOf grid rows visit))

-- each former's agent is one of those
abbrev pub HasFormers : List Former → List ℕ → Type 0
HasFormers formers agents = (former : Former) → Contains formers former → Contains agents former.agent

-- and each line's
abbrev pub HasAgentsOf : List AgentLine → List ℕ → Type 0
HasAgentsOf lines agents = (line : AgentLine) → Contains lines line → Contains agents line.agent
