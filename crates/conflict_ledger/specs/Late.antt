-- What is gathered of one agent from its last index on, where it rests: words for the ledger's own steps (this project's choice).
use Rattle.std.specs.Prelude.{◌≡◌, ◌≢◌, ◌⊎◌, ℕ, ◌+◌, ◌<◌, ◌≤◌, Some, List, Contains}
use Rattle.grid_cells.specs.Cell.{Point}
use Rattle.plan_table.specs.Route.{Fleet, position_of, last_of}
use Rattle.mapf_rules.specs.ConflictList.{Stands}
use Rattle.conflict_ledger.specs.declared.sight.Sight.{Sight}
use Rattle.mapf_rules.specs.declared.entries.Conflict.{Conflict}
use Rattle.mapf_rules.specs.declared.entries.Conflict.TheVariants.{Vertex, Parked, Following}
use Rattle.conflict_ledger.specs.Gathering.{Gathers, HasTime}

-- what is new are entries of the sight's agent from the last index on
abbrev pub GathersLate : Sight → ℕ → List Conflict → List Conflict → Fleet → Type 0
GathersLate sight last old new fleet = last ≡ last_of fleet sight.agent → Gathers fleet sight.agent (λ t. last ≤ t) old new

-- each entry of the sight's agent after the last index is there
abbrev pub HasAllLate : Sight → ℕ → List Conflict → Fleet → Type 0
HasAllLate sight last entries fleet = last ≡ last_of fleet sight.agent → (time : ℕ) → last < time → HasTime fleet sight.agent time entries

-- the entry is one of the agent, at rest in that cell, and of the other one, which is there at the time: a meeting then,
-- or the step in which the other one comes
abbrev pub IsLateOf : Conflict → ℕ → ℕ → ℕ → Point → Type 0
IsLateOf (Vertex time first second cell) x agent other rest = (time ≡ x) × (cell ≡ rest) × (((first ≡ agent) × (second ≡ other)) ⊎ ((first ≡ other) × (second ≡ agent)))
IsLateOf (Parked time first second cell) x agent other rest = (time ≡ x) × (cell ≡ rest) × (((first ≡ agent) × (second ≡ other)) ⊎ ((first ≡ other) × (second ≡ agent)))
IsLateOf (Following time follower leader cell) x agent other rest = (time + 1 ≡ x) × (cell ≡ rest) × (follower ≡ other) × (leader ≡ agent)
IsLateOf entry x agent other rest = ⊥

-- the agent rests in the cell where the other one is at the time, and is in it one step before too
pub record IsPassed (fleet : Fleet) (time agent other : ℕ) (rest : Point) : Type 0 where
  pub apart : other ≢ agent
  pub there : position_of fleet other time ≡ Some rest
  pub rests : (t : ℕ) → time ≤ t + 1 → position_of fleet agent t ≡ Some rest

-- what is new are entries of the sight's agent, at rest in the cell, from the step on in which the other one comes at the time
abbrev pub GathersPassing : Sight → ℕ → ℕ → Point → List Conflict → List Conflict → Fleet → Type 0
GathersPassing sight time other rest old new fleet = (other ≢ sight.agent → IsPassed fleet time sight.agent other rest) → Gathers fleet sight.agent (λ t. time ≤ t + 1) old new

-- each such entry of another one is there
abbrev pub HasLate : Fleet → ℕ → ℕ → ℕ → Point → List Conflict → Type 0
HasLate fleet time agent other rest entries = other ≢ agent → (entry : Conflict) → Stands fleet entry → IsLateOf entry time agent other rest → Contains entries entry
