use Rattle.std.proofs.Common.{◌∙◌}
use Rattle.cost_ledger.proofs.RowSums.{row_of_lookup}
use Rattle.cost_ledger.proofs.rows.Rows.row.Goals as goal

pub returns : goal.returns
returns c = rw (← c.self.view_is) (c.get.ensures.value ∙ row_of_lookup _ c.args.agent)
