use Rattle.std.proofs.Common.{ℕ, ◌<◌}
use Rattle.grid_cells.specs.Cell.{Point}
use Rattle.mapf_rules.specs.Visits.{IsBlocked}
use Rattle.mapf_rules.proofs.search.is_unblocked.Given as goal

abbrev pub invariant-loop-time : goal.invariant-loop-time
invariant-loop-time l = (time : ℕ) → time < l.time → (cell : Point) → IsBlocked l.grid l.plan time cell → ⊥
