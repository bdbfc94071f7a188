use Rattle.mapf_rules.proofs.LawsHold.{meetings}
use Rattle.mapf_rules.proofs.laws.meetings_are_told.Goals as goal

pub returns : goal.returns
returns c = meetings
