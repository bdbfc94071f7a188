use Rattle.std.proofs.Common.{sym, ap, subst, ◌∙◌}
use Rattle.scene_edits.specs.Scene.{SceneState}
use Rattle.live_report.specs.Books.{AreOf}
use Rattle.desk_commits.specs.State.{DeskState}
use Rattle.desk_core.proofs.desks.Desk.take_books.Goals as goal

pub returns-in-Some-clause-books : goal.returns-in-Some-clause-books
returns-in-Some-clause-books c =
    let are = c.self.invariant.booked c.in-Some.books (sym c.take.ensures.value ∙ c.in-Some.is) in
    subst (λ (s : SceneState). AreOf s c.in-Some.books) (ap (λ (d : DeskState). d.scene) c.self.view_is) are
