use Rattle.std.proofs.Common.{arith}
use Rattle.plan_table.specs.Route.{tracks_of}
use Rattle.mapf_rules.specs.Cycles.{MovesOut}
use Rattle.plan_table.proofs.Fleets.{all_agents, tracks_live, position_live}
use Rattle.mapf_rules.proofs.movers.mover.Goals as goal

pub returns-clause-none : goal.returns-clause-none
returns-clause-none c agent out =
    all_agents c.args.plans.now.rows c.loop-rank.rank (λ a. MovesOut (tracks_of c.args.mode c.args.plans.now.rows) c.args.time a c.args.cell → ⊥) (omega arith) c.loop-rank.invariant agent
    (tracks_live c.args.mode c.args.plans.now.rows agent (position_live (tracks_of c.args.mode c.args.plans.now.rows) agent c.args.time c.args.cell out.from)) out
