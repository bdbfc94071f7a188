use Rattle.std.proofs.Common.{◌≡◌, ℕ, ◌<◌, ◌≤◌, Some}
use Rattle.std.specs.List.{slice_get}
use Rattle.plan_table.specs.Plans.{agents_of}
use Rattle.plan_table.specs.Route.{last_of, tracks_of}
use Rattle.plan_table.specs.declared.paths.TheConstants.{MOST_LAST_INDEX}
use Rattle.mapf_rules.proofs.plain.horizon.Given as goal

abbrev pub invariant-loop-rank : goal.invariant-loop-rank
invariant-loop-rank l = record {
  above : (agent k : ℕ) → k < l.rank → slice_get (agents_of l.plans.rows) k ≡ Some agent → last_of (tracks_of l.mode l.plans.rows) agent ≤ l.most;
  bound : l.most ≤ MOST_LAST_INDEX;
}
