use Rattle.std.proofs.Common.{rules}
use Rattle.desk_shared.proofs.Views.{fronts}
use Rattle.desk_shared.proofs.sharing.SharedDesk.front.Goals as goal

pub load-requires : goal.load-requires
load-requires c = (search rules, search rules, fronts _ _ _ _ c.pass.invariant.2)
