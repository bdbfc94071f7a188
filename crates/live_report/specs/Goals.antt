-- The goals that agents aim at, each with the field of its distances (this project's choice).
use Rattle.std.specs.Prelude.{◌↔◌, List}
use Rattle.grid_cells.specs.Cell.{Point}
use Rattle.goal_fields.specs.Target.{Standing}
use Rattle.goal_fields.specs.Held.{HasGoal}
use Rattle.live_report.specs.Aims.{IsAimedAt}
use Rattle.live_report.specs.declared.aims.Aim.{Aim}

-- which agents aim at which goals, and the fields
pub record Aimed : Type 0 where
  pub aims : List Aim
  pub fields : List Standing

-- a goal has a field exactly where an agent aims at it
abbrev pub HoldAimed : List Aim → List Standing → Type 0
HoldAimed aims fields = (goal : Point) → HasGoal fields goal ↔ IsAimedAt aims goal
