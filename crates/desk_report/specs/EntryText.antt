-- How the entries of a conflict list are written: the kind, the time, the agents, the cells (this project's choice).
use Rattle.std.specs.Prelude.{ℕ, List, [], ◌∷◌, map, codes, decimal}
use Rattle.grid_cells.specs.Cell.{Point}
use Rattle.mapf_rules.specs.declared.entries.Conflict.{Conflict}
use Rattle.mapf_rules.specs.declared.entries.Conflict.TheVariants.{Vertex, Parked, Edge, Following, Swapping, Cycle}
use Rattle.desk_report.specs.LineText.{line_text, cell_text}

-- two agents in one cell, or one that follows the other into it
abbrev pub pair_line : List ℕ → ℕ → ℕ → ℕ → Point → List ℕ
pair_line kind time first second cell = line_text (kind ∷ decimal time ∷ decimal first ∷ decimal second ∷ cell_text cell ∷ [])

-- two agents that move between two cells
abbrev pub moves_line : List ℕ → ℕ → ℕ → ℕ → Point → Point → List ℕ
moves_line kind time first second cell other = line_text (kind ∷ decimal time ∷ decimal first ∷ decimal second ∷ cell_text cell ∷ cell_text other ∷ [])

abbrev pub entry_line : Conflict → List ℕ
entry_line (Vertex time first second cell) = pair_line (codes "vertex") time first second cell
entry_line (Parked time first second cell) = pair_line (codes "parked") time first second cell
entry_line (Edge time first second cell next) = moves_line (codes "edge") time first second cell next
entry_line (Following time follower leader cell) = pair_line (codes "follow") time follower leader cell
entry_line (Swapping time first second cell other) = moves_line (codes "swap") time first second cell other
entry_line (Cycle time ring) = line_text (codes "cycle" ∷ decimal time ∷ map decimal ring)
