-- What is kept along a path: words for what a ledger of costs keeps (this project's choice).
use Rattle.std.specs.Prelude.{ℕ, ◌+◌, List}
use Rattle.grid_cells.specs.Cell.{Point}
use Rattle.grid_cells.specs.Grid.{Chart}
use Rattle.plan_table.specs.Path.{last_index}
use Rattle.plan_table.specs.declared.plans.Row.{Row}
use Rattle.mapf_rules.specs.VisitSearch.{IsVisitIn}
use Rattle.mapf_rules.specs.declared.visits.Visit.{Visit}
use Rattle.cost_ledger.specs.Sets.{GainsEach}
use Rattle.cost_ledger.specs.declared.replans.Planned.{Planned}

-- new has the visits of old, and the blocked ones of the agent's path from a time on
abbrev pub GainsVisits : List Visit → List Visit → Chart → ℕ → List Point → ℕ → Type 0
GainsVisits old new grid agent path since = GainsEach old new (IsVisitIn grid agent path since (last_index path + 1))

-- the row of an agent that gets a plan
abbrev pub planned_row : Planned → Row
planned_row planned = record { goal = planned.goal; plan = planned.plan.now }
