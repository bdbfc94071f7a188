use Rattle.std.proofs.Common.{subst, sym}
use Rattle.std.proofs.lemmas.Result.{IfOk-weaker}
use Rattle.plan_table.specs.Route.{tracks_of}
use Rattle.cost_ledger.specs.Through.{AreThrough}
use Rattle.live_report.proofs.Passings.{visits_through}
use Rattle.live_report.proofs.fleet.FleetBooks.visits.Goals as goal

pub returns : goal.returns
returns c = IfOk-weaker c.visits_to.result _ _ (λ visits are mode rows books.
    let was = rw (← c.self.view_is) at books in
    let passing = rw c.new.ensures at (c.in_ok-passings.ensures (tracks_of mode rows) was.index) in
    subst (AreThrough rows c.args.cell) (sym are) (visits_through mode rows c.args.cell c.items.result.now (rw c.items.ensures passing))) c.visits_to.ensures
