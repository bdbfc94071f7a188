use Rattle.std.proofs.Common.{sym, subst}
use Rattle.change_history.specs.Moved.{Tell}
use Rattle.live_report.specs.Fleet.{FleetState}
use Rattle.live_report.proofs.RouteChanges.{follow_route}
use Rattle.live_report.proofs.fleet.FleetBooks.admit.Goals as goal

pub returns-clause-books : goal.returns-clause-books
returns-clause-books c = λ fleet are own.
    let was = rw (← c.self.view_is) at are in
    follow_route _ _ _ _ _ _ _ c.in-Ok.ensures.stands c.in-Ok-admit_noting.ensures.kept fleet was.index was.entries own

pub returns-clause-follows : goal.returns-clause-follows
returns-clause-follows c = λ first tell. c.in-Ok-admit_noting.ensures.follows first (subst (λ (b : FleetState). Tell first b.conflicts c.args.moves.now) (sym c.self.view_is) tell)
