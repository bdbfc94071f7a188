use Rattle.std.proofs.Common.{◌≡◌, arith}
use Rattle.plan_table.proofs.Fleets.{row_here}
use Rattle.desk_audit.proofs.Merging.{visits_below, visits_added}
use Rattle.desk_audit.proofs.visits.visits_of.Goals as goal

pub add_visits-requires-clause-below : goal.add_visits-requires-clause-below
add_visits-requires-clause-below c =
    let rows = c.args.plans.now.rows in
    let here = row_here rows c.count-agents.ensures.by_agent c.loop-rank.rank c.entry_at-entry.result.0 c.entry_at-entry.result.1.now c.entry_at-entry.ensures in
    visits_below c.args.grid.now rows c.count-agents.ensures.by_agent c.args.from c.loop-rank.rank c.entry_at-entry.result.0 c.loop-rank.visits.items here.1 c.loop-rank.invariant

pub loop-rank-preserved : goal.loop-rank-preserved
loop-rank-preserved c =
    visits_added c.args.grid.now c.args.plans.now.rows c.count-agents.ensures.by_agent c.args.from c.loop-rank.rank c.entry_at-entry.result.0 c.entry_at-entry.result.1.now (omega arith) c.entry_at-entry.ensures c.loop-rank.visits.items c.add_visits.new.visits.items c.in_ok-add_visits.ensures c.loop-rank.invariant

pub returns : goal.returns
returns c =
    let end : c.loop-rank.rank ≡ c.args.to = omega arith in
    rw (← end) c.loop-rank.invariant
