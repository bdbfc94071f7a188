use Rattle.std.proofs.Common.{sym, subst}
use Rattle.change_history.specs.Moved.{Tell}
use Rattle.change_history.proofs.Apart.{apart_go}
use Rattle.change_history.proofs.moves.Moves.go.Goals as goal

pub returns-in-Ok : goal.returns-in-Ok
returns-in-Ok g c old new there loses first tell followed =
    apart_go first old new _ _ _ _ c.args.item (subst (Tell first old) (sym c.self.view_is) tell followed) g.met.T.Ord.total c.told_apart.ensures there loses c.in-Ok.ensures
