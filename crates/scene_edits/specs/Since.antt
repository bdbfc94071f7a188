-- When an agent that changes its route is first elsewhere.
use Rattle.std.specs.Prelude.{◌≡◌, ◌≢◌, ℕ, ◌<◌, Option, Some, None}
use Rattle.plan_table.specs.Route.{Route, position}

-- the least time at which the positions on the two routes differ, no position and a cell being different, and none
-- where they never do
abbrev pub IsSince : Route → Route → Option ℕ → Type 0
IsSince before after None = (time : ℕ) → position before time ≡ position after time
IsSince before after (Some since) = (position before since ≢ position after since) × ((time : ℕ) → time < since → position before time ≡ position after time)
