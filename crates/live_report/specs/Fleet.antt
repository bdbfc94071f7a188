-- What the books of a fleet keep: who stands and moves where, and the conflict entries; and what visit a passage is (this project's choice).
use Rattle.std.specs.Prelude.{◌≡◌, ℕ, Option, List}
use Rattle.plan_table.specs.Route.{Route, Fleet}
use Rattle.grid_cells.specs.Cell.{Point}
use Rattle.where_index.specs.declared.passings.Passing.{Passing}
use Rattle.mapf_rules.specs.declared.visits.Visit.{Visit}
use Rattle.where_index.specs.Index.{Contents, StandsFor, with_route}
use Rattle.conflict_ledger.specs.Kept.{HasEntries}
use Rattle.mapf_rules.specs.declared.entries.Conflict.{Conflict}

-- what is kept of the agents' places, and the entries
pub record FleetState : Type 0 where
  pub index : Contents
  pub conflicts : List Conflict

-- the books are those of the fleet
pub record AreOfFleet (fleet : Fleet) (books : FleetState) : Type 0 where
  pub index : StandsFor books.index fleet
  pub entries : HasEntries books.conflicts fleet

-- books of any fleet in which the agent has the one route become those of the fleet with the other in its place
abbrev pub Reroutes : ℕ → Option Route → Option Route → FleetState → FleetState → Type 0
Reroutes agent before after old new = (fleet : Fleet) → AreOfFleet fleet old → fleet agent ≡ before → AreOfFleet (with_route fleet agent after) new

-- the visit to the cell of an agent that passes through it
abbrev pub visit_to : Point → Passing → Visit
visit_to cell passing = record { agent = passing.agent; time = passing.time; cell = cell }
