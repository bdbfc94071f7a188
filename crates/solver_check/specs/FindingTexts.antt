-- The lines of what is wrong with paths, and of where their text differs from the problem (this project's choice).
use Rattle.std.specs.Prelude.{ℕ, List, [], ◌∷◌, codes, decimal}
use Rattle.grid_cells.specs.Cell.{Point}
use Rattle.desk_report.specs.LineText.{line_text, cell_text}
use Rattle.solver_check.specs.declared.checks.differences.Difference.{Difference}
use Rattle.solver_check.specs.declared.checks.differences.Difference.TheVariants.{Paths, Agents, Starts, Goals, Start, Goal}
use Rattle.solver_check.specs.declared.checks.wrongs.Wrong.{Wrong}
use Rattle.solver_check.specs.declared.checks.wrongs.Wrong.TheVariants.{TooLong, OutOfMap, NotFromStart, NotAStep}

-- the agent, the time, why, and the cell that is too far or isn't on the map, or the due one and the path's
abbrev pub cell_line : ℕ → ℕ → List ℕ → Point → List ℕ
cell_line agent time why cell = line_text (codes "wrong" ∷ decimal agent ∷ decimal time ∷ why ∷ cell_text cell ∷ [])

abbrev pub cells_line : ℕ → ℕ → List ℕ → Point → Point → List ℕ
cells_line agent time why before cell = line_text (codes "wrong" ∷ decimal agent ∷ decimal time ∷ why ∷ cell_text before ∷ cell_text cell ∷ [])

unfoldable pub wrong_line : Wrong → List ℕ
wrong_line (TooLong agent time cell) = cell_line agent time (codes "too-long") cell
wrong_line (OutOfMap agent time cell) = cell_line agent time (codes "out-of-map") cell
wrong_line (NotFromStart agent start cell) = cells_line agent 0 (codes "not-from-start") start cell
wrong_line (NotAStep agent time before cell) = cells_line agent time (codes "not-a-step") before cell

-- how many of something there are, and how many there should be
abbrev pub counted_line : List ℕ → (found due : ℕ) → List ℕ
counted_line what found due = line_text (codes "differs" ∷ what ∷ decimal found ∷ decimal due ∷ [])

-- the line of the text that has a list for the second time
abbrev pub repeated_line : ℕ → List ℕ
repeated_line line = line_text (codes "differs" ∷ codes "line" ∷ decimal line ∷ [])

-- an agent's cell in a list, and the due one
abbrev pub listed_line : List ℕ → ℕ → Point → Point → List ℕ
listed_line list agent listed due = line_text (codes "differs" ∷ list ∷ decimal agent ∷ cell_text listed ∷ cell_text due ∷ [])

abbrev pub difference_line : Difference → List ℕ
difference_line (Paths paths agents) = counted_line (codes "paths") paths agents
difference_line (Agents listed agents) = counted_line (codes "agents") listed agents
difference_line (Starts listed paths) = counted_line (codes "starts") listed paths
difference_line (Goals listed paths) = counted_line (codes "goals") listed paths
difference_line (Start agent listed due) = listed_line (codes "starts") agent listed due
difference_line (Goal agent listed due) = listed_line (codes "goals") agent listed due
