use Rattle.std.proofs.Common.{arith}
use Rattle.plan_table.proofs.Sets.{set_gains}
use Rattle.cost_ledger.proofs.KeyOrders.{visit_total, visit_exact}
use Rattle.cost_ledger.proofs.along.block_at.Goals as goal

pub returns-in_ok-insert : goal.returns-in_ok-insert
returns-in_ok-insert c = λ v. grind (arith, set_gains visit_total visit_exact _ _ _ c.in_ok-insert.ensures.updates v)
