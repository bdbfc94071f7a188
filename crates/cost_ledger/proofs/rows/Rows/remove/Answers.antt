use Rattle.std.proofs.Common.{◌∙◌}
use Rattle.cost_ledger.proofs.RowSums.{changes, row_of_lookup, sums_removed, by_agent_sorted}
use Rattle.cost_ledger.proofs.rows.Rows.remove.Goals as goal

pub returns-clause-value : goal.returns-clause-value
returns-clause-value c = rw (← c.self.view_is) (c.remove.ensures.value ∙ row_of_lookup _ c.args.agent)

pub returns-clause-gone : goal.returns-clause-gone
returns-clause-gone c = rw (← c.self.view_is) (changes _ _ _ _ c.remove.ensures.updates.0)

pub returns-clause-sums : goal.returns-clause-sums
returns-clause-sums c = rw (← c.self.view_is) (sums_removed _ _ c.args.agent _ (c.remove.ensures.value ∙ row_of_lookup _ c.args.agent) c.remove.ensures.entries)

pub returns-clause-by_agent : goal.returns-clause-by_agent
returns-clause-by_agent c = by_agent_sorted _ c.remove.ensures.ordered
