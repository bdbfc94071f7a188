use Rattle.desk_shared.proofs.Alone.{alone_finds_what_it_saw_holds}
use Rattle.desk_shared.proofs.laws.alone_finds_what_it_saw.Goals as goal

pub returns : goal.returns
returns c = alone_finds_what_it_saw_holds
