use Rattle.scene_edits.proofs.Deciding.{one_fault_holds}
use Rattle.scene_edits.proofs.laws.one_fault_or_none.Goals as goal

pub returns : goal.returns
returns c = one_fault_holds
