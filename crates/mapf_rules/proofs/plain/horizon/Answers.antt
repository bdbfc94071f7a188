use Rattle.std.proofs.Common.{◌≤◌, inl, inr, arith}
use Rattle.plan_table.specs.Route.{last_of, tracks_of}
use Rattle.plan_table.proofs.Fleets.{all_agents, live_or_not, last_of_none}
use Rattle.mapf_rules.proofs.plain.horizon.Goals as goal

pub returns-clause-above : goal.returns-clause-above
returns-clause-above c agent =
    elim (live_or_not c.args.plans.now.rows agent) [
      | inl live ↦ all_agents c.args.plans.now.rows c.loop-rank.rank (λ a. last_of (tracks_of c.args.mode c.args.plans.now.rows) a ≤ c.loop-rank.most) (omega arith) c.loop-rank.invariant.above agent live
      | inr none ↦ omega (arith, last_of_none c.args.mode c.args.plans.now.rows agent none)
    ]
