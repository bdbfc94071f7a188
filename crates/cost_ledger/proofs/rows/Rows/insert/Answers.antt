use Rattle.cost_ledger.proofs.RowSums.{changes, sum_insert, by_agent_sorted}
use Rattle.cost_ledger.proofs.rows.Rows.insert.Goals as goal

pub returns : goal.returns
returns c = record {
  change = rw (← c.self.view_is) (changes _ _ _ _ c.in_ok-insert.ensures.updates.0);
  sums =
      λ number. rw (c.in_ok-insert.ensures.entries, ← c.self.view_is) (sum_insert number c.args.agent c.args.row _ c.insert.ensures.was_ordered
      (rw c.self.view_is c.requires.absent));
  by_agent = by_agent_sorted _ c.insert.ensures.ordered;
}
