use Rattle.std.proofs.Common.{◌≡◌, refl, arith}
use Rattle.plan_table.specs.Route.{tracks_of}
use Rattle.mapf_rules.specs.Cycles.{MovesOut}
use Rattle.plan_table.proofs.Fleets.{all_agents, tracks_live, position_live}
use Rattle.mapf_rules.proofs.movers.is_sole.Goals as goal

pub returns : goal.returns
returns c = (
  λ t other out. all_agents c.args.plans.now.rows c.loop-rank.rank (λ a. MovesOut (tracks_of c.args.mode c.args.plans.now.rows) c.args.time a c.args.cell → a ≡ c.args.agent) (omega arith) c.loop-rank.invariant other
      (tracks_live c.args.mode c.args.plans.now.rows other (position_live (tracks_of c.args.mode c.args.plans.now.rows) other c.args.time c.args.cell out.from)) out,
  λ only. refl,
)
