use Rattle.cost_ledger.proofs.Maps.{setting}
use Rattle.cost_ledger.proofs.laws.setting_changes_one.Goals as goal

pub returns : goal.returns
returns c = setting
