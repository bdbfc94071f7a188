use Rattle.std.proofs.Common.{rules}
use Rattle.desk_shared.proofs.Turning.{reaches}
use Rattle.desk_shared.proofs.steps.reach.Goals as goal

pub load-requires : goal.load-requires
load-requires c = (search rules, search rules, reaches _ _ _ _ c.requires.ready.1 c.requires.ready.2)
