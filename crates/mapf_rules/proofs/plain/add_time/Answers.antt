use Rattle.std.proofs.Common.{refl, arith}
use Rattle.mapf_rules.specs.Finding.{fleet_of, StandsFirst}
use Rattle.mapf_rules.specs.Naming.{first_agent}
use Rattle.mapf_rules.proofs.Live.{stands_first}
use Rattle.mapf_rules.proofs.Adds.{adds_as, adds_next, adds_all}
use Rattle.mapf_rules.proofs.plain.add_time.Goals as goal

pub loop-rank-preserved : goal.loop-rank-preserved
loop-rank-preserved c = adds_next _ _ _ c.agent_of.ensures c.loop-rank.invariant c.in_ok-add_first.ensures

pub returns : goal.returns
returns c =
    adds_as (adds_all _ (StandsFirst (fleet_of c.args.table.now) c.args.time) c.loop-rank.rank c.args.table.now.mode (omega arith)
    (λ first e is. rw is.1 at (stands_first (fleet_of c.args.table.now) e is.0.0)) c.loop-rank.invariant) (λ e. (λ of. of.1.0, λ is. (first_agent e, (is, refl))))
