use Rattle.mapf_rules.proofs.Settling.{visits_law}
use Rattle.mapf_rules.proofs.laws.one_visit_list.Goals as goal

pub returns : goal.returns
returns c = visits_law
