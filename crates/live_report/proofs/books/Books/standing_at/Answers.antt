use Rattle.std.proofs.Common.{subst, sym}
use Rattle.std.proofs.lemmas.Result.{IfOk-weaker}
use Rattle.plan_table.specs.Route.{tracks_of}
use Rattle.live_report.specs.Books.{BooksState, AreOf}
use Rattle.live_report.proofs.books.Books.standing_at.Goals as goal

pub returns : goal.returns
returns c = IfOk-weaker c.standing_at.result _ _ (λ agents gives scene are.
    let was = subst (λ (b : BooksState). AreOf scene b) (sym c.self.view_is) are in
    gives (tracks_of scene.mode scene.rows) was.fleet) c.standing_at.ensures
