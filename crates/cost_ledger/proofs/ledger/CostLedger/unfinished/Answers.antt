use Rattle.std.proofs.Common.{◌∙◌}
use Rattle.cost_ledger.proofs.KeptTotals.{costs_of, kept_costs, missing_costs}
use Rattle.cost_ledger.proofs.ledger.CostLedger.unfinished.Goals as goal

pub returns-clause-is : goal.returns-clause-is
returns-clause-is c =
    let k = c.self.invariant in
    let rows = c.self.inside.rows in
    rw (← c.self.view_is) (costs_of rows, kept_costs _ _ _ _ k, k.elsewhere_is ∙ missing_costs rows)
