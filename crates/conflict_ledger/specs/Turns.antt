-- Rings at the cells that one agent moves out of: words for the ledger's own steps (this project's choice).
use Rattle.std.specs.Prelude.{◌≡◌, ◌≢◌, ℕ, ◌+◌, Option, Some, List, Contains}
use Rattle.grid_cells.specs.Cell.{Point}
use Rattle.plan_table.specs.Route.{Route, Fleet}
use Rattle.mapf_rules.specs.Cycles.{IsRingAt}
use Rattle.mapf_rules.specs.Naming.{time_of}
use Rattle.conflict_ledger.specs.Sight.{own_place, own_route}
use Rattle.conflict_ledger.specs.declared.sight.Sight.{Sight}
use Rattle.conflict_ledger.specs.declared.turns.Turn.{Turn}
use Rattle.conflict_ledger.specs.declared.turns.Turn.TheVariants.{Broken, Joined}
use Rattle.mapf_rules.specs.declared.entries.Conflict.{Conflict}
use Rattle.mapf_rules.specs.declared.entries.Conflict.TheVariants.{Vertex, Following, Cycle}

-- the route moves in the step, and the ring of the fleet has a member that moves out of the cell that it leaves
pub record IsLeftAt (fleet : Fleet) (route : Option Route) (time : ℕ) (ring : List ℕ) : Type 0 where
  pub cell : Point
  pub to : Point
  pub from : own_place route time ≡ Some cell
  pub arrives : own_place route (time + 1) ≡ Some to
  pub moves : to ≢ cell
  pub round : IsRingAt fleet time cell ring

-- the entry is such a ring
abbrev pub IsLeft : Fleet → Option Route → Conflict → Type 0
IsLeft fleet route (Cycle time ring) = IsLeftAt fleet route time ring
IsLeft fleet route entry = ⊥

-- the entry is a meeting before the later path's end: where the agent's moves break a ring of others, there is one
abbrev pub MayBreak : Conflict → Type 0
MayBreak (Vertex time first second cell) = Unit {0}
MayBreak entry = ⊥

-- the entry is of one who follows the agent: where the agent is in a ring, there is one
abbrev pub MayJoin : Conflict → ℕ → Type 0
MayJoin (Following time follower leader cell) agent = leader ≡ agent
MayJoin entry agent = ⊥

-- the entry lets the agent's moves break, or join, a ring at its time
abbrev pub MayTurn : Turn → Conflict → ℕ → Type 0
MayTurn Broken entry agent = MayBreak entry
MayTurn Joined entry agent = MayJoin entry agent

-- one of the entries is such a one at that time
pub record IsToldAt (turn : Turn) (entries : List Conflict) (agent time : ℕ) : Type 0 where
  pub entry : Conflict
  pub has : Contains entries entry
  pub at : time_of entry ≡ time
  pub may : MayTurn turn entry agent

-- the ring is left so at the entry's time, and the entry lets the agent's moves turn one
abbrev pub IsTurned : Fleet → Sight → Turn → Conflict → Conflict → Type 0
IsTurned fleet with turn entry ring = IsLeft fleet (own_route with) ring × (time_of ring ≡ time_of entry) × MayTurn turn entry with.agent

-- a ring that is so is the one that was found
abbrev pub FindsTurned : Fleet → Sight → Turn → Conflict → Conflict → Option Conflict → Type 0
FindsTurned fleet with turn entry ring found = IsLeft fleet (own_route with) ring → time_of ring ≡ time_of entry → MayTurn turn entry with.agent → found ≡ Some ring

-- each of the rings is left so at a time that one of the entries tells
abbrev pub AreLeftTold : Fleet → Sight → Turn → List Conflict → List Conflict → Type 0
AreLeftTold fleet with turn entries rings = (ring : Conflict) → Contains rings ring → IsLeft fleet (own_route with) ring × IsToldAt turn entries with.agent (time_of ring)

-- and each that is so is one of them
abbrev pub HasLeftTold : Fleet → Sight → Turn → List Conflict → List Conflict → Type 0
HasLeftTold fleet with turn entries rings = (ring : Conflict) → IsLeft fleet (own_route with) ring → IsToldAt turn entries with.agent (time_of ring) → Contains rings ring

-- a ring that is left so at the time is the one that was found
abbrev pub FindsRingLeft : Fleet → Sight → ℕ → Option Conflict → Type 0
FindsRingLeft fleet with time found = (ring : List ℕ) → IsLeftAt fleet (own_route with) time ring → found ≡ Some (Cycle time ring)
