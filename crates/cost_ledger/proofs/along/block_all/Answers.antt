use Rattle.std.proofs.Common.{arith}
use Rattle.std.proofs.lemmas.List.{take_all}
use Rattle.plan_table.proofs.Sets.{set_gains}
use Rattle.cost_ledger.proofs.KeyOrders.{visit_total, visit_exact}
use Rattle.cost_ledger.proofs.Sets.{gains_then, taken_more}
use Rattle.cost_ledger.proofs.along.block_all.Goals as goal

pub loop-visit-preserved : goal.loop-visit-preserved
loop-visit-preserved c =
    gains_then _ _ _ _ _ _
    (taken_more c.args.visits.now c.loop-visit.visit-index c.visit-item.result c.loop-visit-test.true c.visit-item.is) c.loop-visit.invariant (set_gains visit_total visit_exact _ _ _ c.in_ok-insert.ensures.updates)

pub returns : goal.returns
returns c = rw (take_all c.loop-visit.visit-index c.args.visits.now (omega arith)) at c.loop-visit.invariant
