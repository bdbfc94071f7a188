use Rattle.std.proofs.Common.{◌≡◌, ℕ, ◌<◌, Some}
use Rattle.std.specs.List.{slice_get}
use Rattle.plan_table.specs.Plans.{agents_of}
use Rattle.plan_table.specs.Route.{tracks_of}
use Rattle.mapf_rules.specs.Cycles.{MovesOut}
use Rattle.mapf_rules.proofs.movers.is_sole.Given as goal

abbrev pub invariant-loop-rank : goal.invariant-loop-rank
invariant-loop-rank l = (other k : ℕ) → k < l.rank → slice_get (agents_of l.plans.rows) k ≡ Some other → MovesOut (tracks_of l.mode l.plans.rows) l.time other l.cell → other ≡ l.agent
