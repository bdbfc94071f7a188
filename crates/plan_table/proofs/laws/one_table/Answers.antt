use Rattle.plan_table.proofs.OneTable.{one_table_holds}
use Rattle.plan_table.proofs.laws.one_table.Goals as goal

pub returns : goal.returns
returns c = one_table_holds
