use Rattle.single_runs.proofs.Returning.{saved_desks_come_back_holds}
use Rattle.single_runs.proofs.laws.saved_desks_come_back.Goals as goal

pub returns : goal.returns
returns c = saved_desks_come_back_holds
