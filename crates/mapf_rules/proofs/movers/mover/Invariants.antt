use Rattle.std.proofs.Common.{◌≡◌, ℕ, ◌<◌, Some}
use Rattle.std.specs.List.{slice_get}
use Rattle.plan_table.specs.Plans.{agents_of}
use Rattle.plan_table.specs.Route.{tracks_of}
use Rattle.mapf_rules.specs.Cycles.{MovesOut}
use Rattle.mapf_rules.proofs.movers.mover.Given as goal

abbrev pub invariant-loop-rank : goal.invariant-loop-rank
invariant-loop-rank l = (agent k : ℕ) → k < l.rank → slice_get (agents_of l.plans.rows) k ≡ Some agent → MovesOut (tracks_of l.mode l.plans.rows) l.time agent l.cell → ⊥
