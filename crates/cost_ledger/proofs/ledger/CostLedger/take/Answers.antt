use Rattle.std.proofs.Common.{sym, arith}
use Rattle.cost_ledger.specs.Kept.{ends_elsewhere, last_of_row}
use Rattle.plan_table.proofs.Sets.{set_loses}
use Rattle.cost_ledger.proofs.KeyOrders.{rest_total, rest_exact}
use Rattle.cost_ledger.proofs.Keeping.{keeps_take, visits_take}
use Rattle.cost_ledger.proofs.ledger.CostLedger.take.Goals as goal

pub invariant_of-self-2 : goal.invariant_of-self-2
invariant_of-self-2 c =
    let sums = c.in-Some.ensures.sums in
    keeps_take _ _ _ _ _ _ _ _ c.args.agent c.in-Some.row c.last-last.result c.self.invariant
    (sym c.in-Some.ensures.value) c.remove.ensures.gone c.remove.ensures.by_agent sums
    c.last-last.ensures.is (set_loses rest_total rest_exact _ _ _ c.remove-2.ensures.updates)
    (omega (arith, c.from.ensures, c.last-last.ensures.is, c.self.invariant.total_is, sums last_of_row))
    (omega (arith, c.elsewhere.ensures, c.self.invariant.elsewhere_is, sums ends_elsewhere))

pub returns-clause-stands : goal.returns-clause-stands
returns-clause-stands c = λ grid stands.
    visits_take grid c.self.inside.rows c.remove.new.self c.args.agent c.in-Some.row c.self.inside.blocked.keys c.unblock.new.blocked.keys c.len-count.ensures.ordered
    (sym c.in-Some.ensures.value) c.remove.ensures.gone (rw (← c.self.view_is) at stands) c.unblock.ensures
