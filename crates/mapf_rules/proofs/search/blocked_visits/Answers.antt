use Rattle.std.proofs.Common.{arith}
use Rattle.mapf_rules.proofs.Visiting.{none_below, below_here, visits_more, visits_of_all}
use Rattle.mapf_rules.proofs.search.blocked_visits.Goals as goal

pub loop-rank-init : goal.loop-rank-init
loop-rank-init c = rw c.new-visits.ensures.items (none_below c.args.grid.now c.args.plans.now.rows)

pub add_visits-requires-clause-below : goal.add_visits-requires-clause-below
add_visits-requires-clause-below c =
    below_here c.args.grid.now c.args.plans.now.rows c.loop-rank.rank c.entry_at-entry.result.0 c.entry_at-entry.result.1.now c.loop-rank.visits.items c.entry_at-entry.ensures c.loop-rank.invariant

pub loop-rank-preserved : goal.loop-rank-preserved
loop-rank-preserved c =
    visits_more c.args.grid.now c.args.plans.now.rows c.count-rank-end.ensures.by_agent c.loop-rank.rank c.entry_at-entry.result.0 c.entry_at-entry.result.1.now c.entry_at-entry.ensures
    c.loop-rank.visits.items c.add_visits.new.visits.items c.in_ok-add_visits.ensures c.loop-rank.invariant

pub returns : goal.returns
returns c = rw c.new.ensures (visits_of_all c.args.grid.now c.args.plans.now.rows c.loop-rank.rank c.loop-rank.visits.items (omega arith) c.loop-rank.invariant)
