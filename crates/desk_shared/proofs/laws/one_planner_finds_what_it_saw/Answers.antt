use Rattle.desk_shared.proofs.Alone.{one_planner_finds_what_it_saw_holds}
use Rattle.desk_shared.proofs.laws.one_planner_finds_what_it_saw.Goals as goal

pub returns : goal.returns
returns c = one_planner_finds_what_it_saw_holds
