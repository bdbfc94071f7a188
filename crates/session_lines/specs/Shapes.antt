-- What the words behind the first one stand for, by the shape of the line (this project's choice).
use Rattle.std.specs.Prelude.{ℕ, Option, Some, None, List, [], ◌∷◌}
use Rattle.grid_cells.specs.Cell.{Point}
use Rattle.session_lines.specs.Values.{with_both, agent_of, time_named, version_named, seconds_of, cell_of}

-- a line of no more words
abbrev pub alone : {A : Type 0} → A → List (List ℕ) → Option A
alone a [] = Some a
alone a (word ∷ words) = None

-- AGENT
abbrev pub only_agent : List (List ℕ) → Option ℕ
only_agent (agent ∷ []) = agent_of agent
only_agent _ = None

-- X,Y
abbrev pub only_cell : List (List ℕ) → Option Point
only_cell (cell ∷ []) = cell_of cell
only_cell _ = None

-- VERSION
abbrev pub only_version : List (List ℕ) → Option ℕ
only_version (version ∷ []) = version_named version
only_version _ = None

-- AGENT X,Y
abbrev pub agent_and_cell : List (List ℕ) → Option (ℕ × Point)
agent_and_cell (agent ∷ cell ∷ []) = with_both (λ a c. (a, c)) (agent_of agent) (cell_of cell)
agent_and_cell _ = None

-- TIME X,Y
abbrev pub time_and_cell : List (List ℕ) → Option (ℕ × Point)
time_and_cell (time ∷ cell ∷ []) = with_both (λ t c. (t, c)) (time_named time) (cell_of cell)
time_and_cell _ = None

-- VERSION SECONDS
abbrev pub version_and_seconds : List (List ℕ) → Option (ℕ × ℕ)
version_and_seconds (version ∷ seconds ∷ []) = with_both (λ v s. (v, s)) (version_named version) (seconds_of seconds)
version_and_seconds _ = None
