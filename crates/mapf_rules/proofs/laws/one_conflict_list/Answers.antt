use Rattle.mapf_rules.proofs.LawsHold.{one_list}
use Rattle.mapf_rules.proofs.laws.one_conflict_list.Goals as goal

pub returns : goal.returns
returns c = one_list
