-- The scene that an edit makes of a scene (this project's choice of edits).
use Rattle.std.specs.Prelude.{ℕ, ◌+◌, true, false, List, [], ◌∷◌, ◌++◌, take, filter, not, nat_lt, ◌==◌}
use Rattle.std.specs.Option.{option_map_or}
use Rattle.grid_cells.specs.Cell.{Point}
use Rattle.grid_cells.specs.Grid.{with_cell}
use Rattle.plan_table.specs.Plans.{row_of}
use Rattle.plan_table.specs.declared.plans.Row.{Row}
use Rattle.scene_edits.specs.Scene.{SceneState}
use Rattle.scene_edits.specs.Paths.{path_of}
use Rattle.scene_edits.specs.declared.edits.Edit.{Edit}
use Rattle.scene_edits.specs.declared.edits.Edit.TheVariants.{Add, Drop, Goal, Path, Tail, Open, Close}

-- the rows of the lesser agents, then that row, then the rows of the greater agents
abbrev pub with_row : List (ℕ × Row) → ℕ → Row → List (ℕ × Row)
with_row rows agent row = filter (λ entry. nat_lt entry.0 agent) rows ++ (agent, row) ∷ filter (λ entry. nat_lt agent entry.0) rows

-- the rows of the other agents
abbrev pub without_row : List (ℕ × Row) → ℕ → List (ℕ × Row)
without_row rows agent = filter (λ entry. not (entry.0 == agent)) rows

-- the rows with that of the agent changed, where it has one
abbrev pub with_changed : List (ℕ × Row) → ℕ → (Row → Row) → List (ℕ × Row)
with_changed rows agent change = option_map_or (λ row. with_row rows agent (change row)) (row_of rows agent) rows

-- the cells of a plan up to a time, and then those cells
abbrev pub continued : List Point → ℕ → List Point → List Point
continued plan from cells = take (from + 1) plan ++ cells

-- the scene after an edit; it says nothing of an edit that is refused
abbrev pub edited : SceneState → Edit → SceneState
edited scene (Add agent start goal) = record scene { rows = with_row scene.rows agent (record { goal = goal; plan = start ∷ [] }) }
edited scene (Drop agent) = record scene { rows = without_row scene.rows agent }
edited scene (Goal agent goal) = record scene { rows = with_changed scene.rows agent (λ row. record row { goal = goal }) }
edited scene (Path agent cells) = record scene { rows = with_changed scene.rows agent (λ row. record row { plan = path_of cells }) }
edited scene (Tail agent from cells) = record scene { rows = with_changed scene.rows agent (λ row. record row { plan = path_of (continued row.plan from cells) }) }
edited scene (Open cell) = record scene { grid = with_cell scene.grid cell true }
edited scene (Close cell) = record scene { grid = with_cell scene.grid cell false }
