use Rattle.mapf_rules.proofs.Orders.{conflict_exact}
use Rattle.change_history.proofs.items.ConflictItem.told_apart.Goals as goal

pub returns : goal.returns
returns c = conflict_exact
