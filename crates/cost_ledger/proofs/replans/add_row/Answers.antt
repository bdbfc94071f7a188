use Rattle.plan_table.proofs.Sets.{set_gains}
use Rattle.cost_ledger.proofs.KeyOrders.{rest_total, rest_exact}
use Rattle.cost_ledger.proofs.replans.add_row.Goals as goal

pub returns-clause-rests : goal.returns-clause-rests
returns-clause-rests c = rw c.last.ensures.is at (set_gains rest_total rest_exact _ _ _ c.in_ok-insert.ensures.updates)
