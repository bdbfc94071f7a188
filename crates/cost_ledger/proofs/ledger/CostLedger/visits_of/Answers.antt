use Rattle.cost_ledger.proofs.ledger.CostLedger.visits_of.Goals as goal

pub returns : goal.returns
returns c = rw (← c.self.view_is) c.of_agent.ensures
