-- What an index is asked about the fleet that it stands for (Stern et al. 2019 for positions and moves; the questions are
-- this project's choice).
use Rattle.std.specs.Prelude.{◌≡◌, ◌≢◌, ◌⊎◌, ◌↔◌, ℕ, ◌+◌, ◌<◌, ◌≤◌, Some, IsSome, IsTrue, List, [], ◌∷◌, length, Contains, AllPairs}
use Rattle.grid_cells.specs.Cell.{Point}
use Rattle.plan_table.specs.Order.{ListsAll}
use Rattle.plan_table.specs.Route.{Fleet, position_of, last_of, Leaves}
use Rattle.where_index.specs.declared.moves.Move.{Move}
use Rattle.where_index.specs.declared.passings.Passing.{Passing}
use Rattle.where_index.specs.declared.spot_sets.Spot.{Spot}
use Rattle.where_index.specs.declared.occupants.Occupants.{Occupants}
use Rattle.where_index.specs.declared.ways.Way.{Way}
use Rattle.where_index.specs.Flows.{leads}
use Rattle.where_index.specs.Spots.{HasAt, AreRising}

-- the agents whose position at that time is the cell, ascending
abbrev pub AreStandingAt : Fleet → ℕ → Point → List ℕ → Type 0
AreStandingAt fleet time cell agents = ListsAll (λ agent. agent ∷ []) (λ agent. position_of fleet agent time ≡ Some cell) agents

-- in the step that begins at that time the agent goes from the one cell to the other; a wait is no move
pub record MovesFrom (fleet : Fleet) (time : ℕ) (from : Point) (move : Move) : Type 0 where
  pub starts : position_of fleet move.agent time ≡ Some from
  pub arrives : position_of fleet move.agent (time + 1) ≡ Some move.to
  pub moves : from ≢ move.to

-- the moves out of the cell in the step, by agent
abbrev pub AreMovers : Fleet → ℕ → Point → List Move → Type 0
AreMovers fleet time from moves = ListsAll (λ move. move.agent ∷ []) (MovesFrom fleet time from) moves

-- some agent moves that way in the step that begins at that time
pub record Goes (fleet : Fleet) (time : ℕ) (way : Way) : Type 0 where
  pub agent : ℕ
  pub from : Point
  pub to : Point
  pub starts : position_of fleet agent time ≡ Some from
  pub arrives : position_of fleet agent (time + 1) ≡ Some to
  pub turns : IsTrue (leads way from to)

-- from that time on, and no later than its last index, the agent is in the cell
pub record Passes (fleet : Fleet) (cell : Point) (from : ℕ) (passing : Passing) : Type 0 where
  pub not_before : from ≤ passing.time
  pub not_after : passing.time ≤ last_of fleet passing.agent
  pub there : position_of fleet passing.agent passing.time ≡ Some cell

-- those who pass through the cell from that time on, by time, then agent
abbrev pub ArePassing : Fleet → Point → ℕ → List Passing → Type 0
ArePassing fleet cell from passings = ListsAll (λ passing. passing.time ∷ passing.agent ∷ []) (Passes fleet cell from) passings

-- the agent is in the cell at the time, which is one from one on, and does not rest there yet, or is to leave; where its step
-- leads to another cell, it is in that one next
pub record StandsIn (fleet : Fleet) (cell : Point) (from : ℕ) (s : Spot) : Type 0 where
  pub not_before : from ≤ s.time
  pub there : position_of fleet s.step.agent s.time ≡ Some cell
  pub passes : (s.time < last_of fleet s.step.agent) ⊎ Leaves fleet s.step.agent
  pub goes : cell ≢ s.step.to → position_of fleet s.step.agent (s.time + 1) ≡ Some s.step.to

-- the agent is in the cell from that time on
pub record RestsIn (fleet : Fleet) (cell : Point) (s : Spot) : Type 0 where
  pub there : (time : ℕ) → s.time ≤ time → position_of fleet s.step.agent time ≡ Some cell

-- an agent that is in the cell at a time stands there, or has come to rest there
abbrev pub IsOccupant : Point → ℕ → ℕ → List Spot → List Spot → Type 0
IsOccupant cell time agent stands tails = HasAt stands time agent ⊎ ((s : Spot) × Contains tails s × (s.step.agent ≡ agent) × (s.time ≤ time))

-- those who are in the cell at times from one on, the earliest first
pub record AreOccupants (fleet : Fleet) (cell : Point) (from : ℕ) (found : Occupants) : Type 0 where
  pub standing : (s : Spot) → Contains found.stands s → StandsIn fleet cell from s
  pub resting : (s : Spot) → Contains found.tails s → RestsIn fleet cell s
  pub all : (agent time : ℕ) → from ≤ time → position_of fleet agent time ≡ Some cell → IsOccupant cell time agent found.stands found.tails
  pub stands_rise : AreRising found.stands
  pub tails_rise : AreRising found.tails

-- so many agents have a route
pub record CountsAgents (fleet : Fleet) (count : ℕ) : Type 0 where
  pub agents : List ℕ
  pub ascending : AllPairs (λ a b. a < b) agents
  pub exact : (agent : ℕ) → Contains agents agent ↔ IsSome (fleet agent)
  pub many : length agents ≡ count
