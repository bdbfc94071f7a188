-- Entries of a fleet of which one route changes.
use Rattle.std.specs.Prelude.{◌≡◌, ◌≢◌, ◌⊎◌, ◌↔◌, ℕ, List, Contains, Some, None}
use Rattle.grid_cells.specs.Cell.{Point}
use Rattle.plan_table.specs.Route.{Fleet, position_of}
use Rattle.mapf_rules.specs.Cycles.{IsRing, MovesOut}

-- the two fleets differ at most in that agent's route
abbrev pub SameBut : Fleet → Fleet → ℕ → Type 0
SameBut old new agent = (a : ℕ) → a ≢ agent → old a ≡ new a

-- the ring has no member in a cell that the agent moves out of
abbrev pub IsFree : Fleet → ℕ → List ℕ → ℕ → Type 0
IsFree fleet time ring agent = (member : ℕ) (cell : Point) → Contains ring member → position_of fleet member time ≡ Some cell → MovesOut fleet time agent cell → ⊥

-- the rings of a fleet into which an agent comes: those with the agent, and those before in which it takes no part
abbrev pub RingsAfterArrival : Type 0
RingsAfterArrival = (old new : Fleet) (agent time : ℕ) (ring : List ℕ) → SameBut old new agent → old agent ≡ None → (Contains ring agent ⊎ (Contains ring agent → ⊥))
    → IsRing new time ring ↔ ((Contains ring agent × IsRing new time ring) ⊎ ((Contains ring agent → ⊥) × IsRing old time ring × IsFree new time ring agent))
