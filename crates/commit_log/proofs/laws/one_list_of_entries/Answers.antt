use Rattle.commit_log.proofs.Cuts.{one_list}
use Rattle.commit_log.proofs.laws.one_list_of_entries.Goals as goal

pub returns : goal.returns
returns c = one_list
