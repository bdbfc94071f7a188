use Rattle.cost_ledger.proofs.Maps.{empty}
use Rattle.cost_ledger.proofs.laws.empty_stands_for_all.Goals as goal

pub returns : goal.returns
returns c = empty
