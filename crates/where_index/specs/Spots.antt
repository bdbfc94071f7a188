-- The spots of a cell, an agent there at a time on its way to a cell: words for the program's own steps (this project's choice).
use Rattle.std.specs.Prelude.{◌≢◌, ◌↔◌, ℕ, ◌≤◌, List, Contains}
use Rattle.std.specs.List.{AllPairs}
use Rattle.grid_cells.specs.Cell.{Point}
use Rattle.where_index.specs.declared.moves.Move.{Move}
use Rattle.where_index.specs.declared.spot_sets.Spot.{Spot}

-- the agent at the time, and one step later in another cell or the same
abbrev pub spot : ℕ → ℕ → Point → Spot
spot time agent to = record { time = time; step = record { agent = agent; to = to } }

-- one of the spots is the agent's at that time
abbrev pub HasAt : List Spot → ℕ → ℕ → Type 0
HasAt spots time agent = (to : Point) × Contains spots (spot time agent to)

-- the spots from a time on
abbrev pub AreFrom : List Spot → ℕ → List Spot → Type 0
AreFrom spots from found = (s : Spot) → Contains found s ↔ (Contains spots s × (from ≤ s.time))

-- no spot is earlier than one before it
abbrev pub AreRising : List Spot → Type 0
AreRising spots = AllPairs (λ a b. a.time ≤ b.time) spots

-- by the spots of the cell, the agent of the step is there at the time, and in another one step later
abbrev pub IsMover : List Spot → Point → ℕ → Move → Type 0
IsMover spots cell time step = Contains spots (spot time step.agent step.to) × (cell ≢ step.to)
