use Rattle.cost_ledger.proofs.KeptTotals.{costs_of, kept_costs, told_sum, told_none}
use Rattle.cost_ledger.proofs.ledger.CostLedger.sum.Goals as goal

pub returns-then-self-eq0-clause-is : goal.returns-then-self-eq0-clause-is
returns-then-self-eq0-clause-is c = rw (← c.self.view_is) (told_sum _ _ _ _ c.self.invariant c.if-self-eq0.true)

pub returns-else-self-eq0-clause-is : goal.returns-else-self-eq0-clause-is
returns-else-self-eq0-clause-is c =
    rw (← c.self.view_is) (costs_of c.self.inside.rows, kept_costs _ _ _ _ c.self.invariant, told_none _ _ _ _ c.self.invariant c.if-self-eq0.false)
