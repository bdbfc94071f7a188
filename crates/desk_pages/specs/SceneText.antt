-- The text of a scene: its map, and for each agent the lines that a session has for it (this project's choice of lines).
use Rattle.std.specs.Prelude.{ℕ, List, [], ◌∷◌, ◌++◌, take, codes, decimal}
use Rattle.std.specs.List.{flat_map}
use Rattle.grid_cells.specs.Cell.{Point}
use Rattle.plan_table.specs.declared.plans.Row.{Row}
use Rattle.bench_reader.specs.MapSpelling.{map_spelling}
use Rattle.scene_edits.specs.Scene.{SceneState}
use Rattle.desk_report.specs.LineText.{cell_text}

-- cells, each behind a space
abbrev pub cells_text : List Point → List ℕ
cells_text cells = flat_map (λ cell. 32 ∷ cell_text cell) cells

-- the line of a name, an agent and cells
abbrev pub course_line : List ℕ → ℕ → List Point → List ℕ
course_line name agent cells = name ++ (32 ∷ decimal agent) ++ cells_text cells ++ codes "\n"

-- where the agent's path begins, and its goal
abbrev pub ends_of : Row → List Point
ends_of row = take 1 row.plan ++ (row.goal ∷ [])

-- an agent's lines: one with where its path begins and its goal, one with its path
abbrev pub row_text : ℕ × Row → List ℕ
row_text (agent, row) = course_line (codes "agent") agent (ends_of row) ++ course_line (codes "path") agent row.plan

-- the map as it is written, and the lines of the agents in their order
abbrev pub scene_text : SceneState → List ℕ
scene_text scene = map_spelling scene.grid ++ flat_map row_text scene.rows
