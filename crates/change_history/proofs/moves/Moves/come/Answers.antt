use Rattle.std.proofs.Common.{sym, subst}
use Rattle.change_history.specs.Moved.{Tell}
use Rattle.change_history.proofs.Apart.{apart_come}
use Rattle.change_history.proofs.moves.Moves.come.Goals as goal

pub returns-in-Ok : goal.returns-in-Ok
returns-in-Ok g c old new fresh gains first tell followed = apart_come first old new _ _ _ _ c.args.item (subst (Tell first old) (sym c.self.view_is) tell followed) fresh gains c.in-Ok.ensures
