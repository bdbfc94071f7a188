use Rattle.std.proofs.Common.{arith}
use Rattle.mapf_rules.specs.Finding.{fleet_of, StandsOfPair}
use Rattle.mapf_rules.proofs.Live.{stands_live}
use Rattle.mapf_rules.proofs.Adds.{adds_as, adds_both, adds_next, adds_all, pair_or_ring, first_found}
use Rattle.mapf_rules.proofs.plain.add_first.Goals as goal

pub loop-rank-preserved : goal.loop-rank-preserved
loop-rank-preserved c = adds_next _ _ _ c.agent_of.ensures c.loop-rank.invariant c.in_ok-add_pair.ensures

pub returns : goal.returns
returns c =
    let fleet = fleet_of c.args.table.now in
    let pairs = adds_all _ (StandsOfPair fleet c.args.time c.args.first) c.loop-rank.rank c.args.table.now.mode (omega arith)
    (λ second e of. (stands_live fleet e c.args.time c.args.first second of.0 of.1).1) c.loop-rank.invariant in
    adds_as (adds_both pairs c.in_ok-offer.ensures) (λ e. (pair_or_ring fleet c.args.time c.args.first _ c.in_ok-cycle.ensures.only e, first_found fleet c.args.time c.args.first _ c.in_ok-cycle.ensures.found e))
