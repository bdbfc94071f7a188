-- What holds of all tables of rows (a consequence of the definitions).
use Rattle.std.specs.Prelude.{◌≡◌, ℕ, List}
use Rattle.plan_table.specs.Plans.{IsByAgent, row_of}
use Rattle.plan_table.specs.declared.plans.Row.{Row}

-- the rows of the agents fix the table
abbrev pub OneTable : Type 0
OneTable = (left right : List (ℕ × Row)) → IsByAgent left → IsByAgent right → ((agent : ℕ) → row_of left agent ≡ row_of right agent) → left ≡ right
