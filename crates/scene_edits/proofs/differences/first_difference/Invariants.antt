use Rattle.std.proofs.Common.{◌≡◌, ℕ, ◌<◌}
use Rattle.plan_table.specs.Route.{route_of, position}
use Rattle.scene_edits.proofs.differences.first_difference.Given as goal

abbrev pub invariant-loop-time : goal.invariant-loop-time
invariant-loop-time l = (time : ℕ) → time < l.time → position (route_of l.before) time ≡ position (route_of l.after) time
