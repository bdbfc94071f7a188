-- After its last index a route changes no more.
use Rattle.std.proofs.Common.{◌≡◌, ℕ, ◌+◌, ◌<◌, rules}
use Rattle.plan_table.specs.Path.{last_index}
use Rattle.plan_table.specs.Route.{Route, position}

-- routes that are the same until one step after both of their last indices are the same for ever
pub same-for_ever : (before after : Route) (end : ℕ) → last_index before.path + 1 < end → last_index after.path + 1 < end → ((time : ℕ) → time < end → position before time ≡ position after time) → (time : ℕ) → position before time ≡ position after time
same-for_ever before after end first second same time = search rules
