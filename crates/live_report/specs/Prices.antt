-- What books of prices stand for: the rows of a fleet on a map (this project's choice).
use Rattle.std.specs.Prelude.{◌≡◌, ◌↔◌, ℕ, ◌==◌, if◌then◌else◌, Option, Some, List, Contains}
use Rattle.grid_cells.specs.Cell.{Point}
use Rattle.grid_cells.specs.Grid.{Chart}
use Rattle.plan_table.specs.Plans.{row_of, IsByAgent}
use Rattle.plan_table.specs.declared.plans.Row.{Row}
use Rattle.cost_ledger.specs.Ledger.{Ledger, StandsForMap}
use Rattle.goal_fields.specs.Target.{Standing}
use Rattle.goal_fields.specs.Held.{HasGoal, StandFor}
use Rattle.live_report.specs.declared.aims.Aim.{Aim}

-- the row of each agent, and none of an agent that isn't there
abbrev pub Rows : Type 0
Rows = ℕ → Option Row

-- the agent has that row, or none, and the others have what they had
abbrev pub with_row_in : Rows → ℕ → Option Row → Rows
with_row_in rows agent row other = if other == agent then row else rows other

-- the agent has a row with that goal
pub record AimsAt (rows : Rows) (agent : ℕ) (goal : Point) : Type 0 where
  pub row : Row
  pub live : rows agent ≡ Some row
  pub aims : row.goal ≡ goal

-- a ledger of costs, which agents aim at which goals, and the fields of the goals
pub record Prices : Type 0 where
  pub costs : Ledger
  pub aims : List Aim
  pub fields : List Standing

-- the books are those of a fleet's rows on the map
pub record AreOfRows (grid : Chart) (fleet : Rows) (books : Prices) : Type 0 where
  pub by_agent : IsByAgent books.costs.rows
  pub rows : (agent : ℕ) → row_of books.costs.rows agent ≡ fleet agent
  pub costs : StandsForMap books.costs grid
  pub aims : (aim : Aim) → Contains books.aims aim ↔ AimsAt fleet aim.agent aim.goal
  pub fields : StandFor grid books.fields
  pub goals : (goal : Point) → HasGoal books.fields goal ↔ ((agent : ℕ) × AimsAt fleet agent goal)

-- books of any rows among which the agent has the one row become those of the rows with the other in its place
abbrev pub Reprices : Chart → ℕ → Option Row → Option Row → Prices → Prices → Type 0
Reprices grid agent before after old new = (rows : Rows) → AreOfRows grid rows old → rows agent ≡ before → AreOfRows grid (with_row_in rows agent after) new
