-- Lists of moves out of a cell in a step.
use Rattle.std.specs.Prelude.{◌≡◌, ◌≢◌, ◌⊎◌, ◌↔◌, ℕ, ◌<◌, ◌≤◌, List, length, Contains, slice_index_or}
use Rattle.std.specs.List.{AllPairs}
use Rattle.where_index.specs.declared.moves.Move.{Move}

-- the agents rise
abbrev pub AreByAgent : List Move → Type 0
AreByAgent moves = AllPairs (λ a b. a.agent < b.agent) moves

-- none of the moves is the agent's
abbrev pub HasNone : List Move → ℕ → Type 0
HasNone moves agent = (m : Move) → Contains moves m → m.agent ≢ agent

-- new has that move, and those of old
abbrev pub GainsMove : List Move → List Move → Move → Type 0
GainsMove old new added = (m : Move) → Contains new m ↔ (Contains old m ⊎ (m ≡ added))

-- new has that move, in the place of the agent's of old, and the others
abbrev pub PutsMove : List Move → List Move → Move → Type 0
PutsMove old new added = (m : Move) → Contains new m ↔ ((Contains old m × (m.agent ≢ added.agent)) ⊎ (m ≡ added))

-- new has the moves of old but for the agent's
abbrev pub LosesMover : List Move → List Move → ℕ → Type 0
LosesMover old new agent = (m : Move) → Contains new m ↔ (Contains old m × (m.agent ≢ agent))

-- the move at the place is the agent's
pub record IsMoveAt (moves : List Move) (agent at : ℕ) : Type 0 where
  pub within : at < length moves
  pub has_agent : (d : Move) → (slice_index_or moves at d).agent ≡ agent

-- the agent's move would go to the place: lesser agents before it, greater ones from it on
pub record IsMoveGap (moves : List Move) (agent at : ℕ) : Type 0 where
  pub within : at ≤ length moves
  pub lesser_before : (k : ℕ) (d : Move) → k < at → (slice_index_or moves k d).agent < agent
  pub greater_after : (k : ℕ) (d : Move) → at ≤ k → k < length moves → agent < (slice_index_or moves k d).agent
