-- What holds of each row of a table (this project's choice of words).
use Rattle.std.specs.Prelude.{◌≡◌, ℕ, Some, List}
use Rattle.grid_cells.specs.Grid.{Chart}
use Rattle.plan_table.specs.Plans.{row_of}
use Rattle.plan_table.specs.declared.plans.Row.{Row}
use Rattle.goal_fields.specs.Target.{Standing}
use Rattle.goal_fields.specs.Held.{HasGoal}
use Rattle.desk_report.specs.Laws.{IsPathOn}

-- each row's goal has a field
abbrev pub HaveFields : List (ℕ × Row) → List Standing → Type 0
HaveFields rows fields = (agent : ℕ) (row : Row) → row_of rows agent ≡ Some row → HasGoal fields row.goal

-- each row's path is a path on the map
abbrev pub HavePathsOn : Chart → List (ℕ × Row) → Type 0
HavePathsOn grid rows = (agent : ℕ) (row : Row) → row_of rows agent ≡ Some row → IsPathOn grid row.plan
