use Rattle.std.proofs.Common.{Some, sym, ap, subst, ◌∙◌, arith}
use Rattle.plan_table.specs.Route.{route_of}
use Rattle.live_report.proofs.NoneApart.{none_more}
use Rattle.change_history.specs.Moved.{Tell}
use Rattle.live_report.specs.Fleet.{FleetState}
use Rattle.live_report.proofs.RouteChanges.{follow_route, are_same}
use Rattle.live_report.proofs.fleet.FleetBooks.revise.Goals as goal

pub returns-clause-books : goal.returns-clause-books
returns-clause-books c = λ fleet are own.
    let was = rw (← c.self.view_is) at are in
    follow_route _ _ _ _ _ _ _ c.in-Ok.ensures.stands c.in-Ok-revise_noting.ensures.kept fleet was.index was.entries own

pub returns-in_default-clause-books : goal.returns-in_default-clause-books
returns-in_default-clause-books c = λ fleet are own. are_same _ fleet c.args.agent (Some (route_of c.args.new)) (own ∙ ap Some c.in_default.ensures.one) are

pub returns-in_default-clause-touched : goal.returns-in_default-clause-touched
returns-in_default-clause-touched c = none_more c.args.self.index.touched _ (route_of c.args.old) (route_of c.args.new) c.in_default.ensures.one (omega (arith, c.touched-touched.ensures, c.touched-touched.type_inv))

pub returns-clause-follows : goal.returns-clause-follows
returns-clause-follows c = λ first tell. c.in-Ok-revise_noting.ensures.follows first (subst (λ (b : FleetState). Tell first b.conflicts c.args.moves.now) (sym c.self.view_is) tell)
