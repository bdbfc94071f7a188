use Rattle.std.proofs.Common.{◌≡◌, sym, ap, subst}
use Rattle.grid_cells.specs.Cell.{Point}
use Rattle.grid_cells.specs.Walks.{IsDistance}
use Rattle.scene_edits.specs.Scene.{SceneState}
use Rattle.live_report.specs.Books.{AreOf}
use Rattle.desk_commits.specs.State.{DeskState}
use Rattle.desk_commits.specs.Goals.{IsAsked}
use Rattle.desk_core.proofs.desks.Desk.distance.Goals as goal

pub returns-clause-told : goal.returns-clause-told
returns-clause-told c =
    let scene = c.args.self.now.scene in
    let same : c.self.inside.scene ≡ scene = ap (λ (d : DeskState). d.scene) c.self.view_is in
    let asked : IsAsked scene c.args.agent c.args.cell c.in_ok-goal.goal = subst (λ (s : SceneState). IsAsked s c.args.agent c.args.cell c.in_ok-goal.goal) same c.in_ok-goal.ensures.asked in
    let are : AreOf scene c.in_ok-books.books = c.in_ok-books.ensures.books in
    let told = c.distance-distance.ensures scene c.args.agent asked.row are asked.live asked.aims asked.inside in
    (asked.row, asked.live, asked.inside, subst (λ (g : Point). IsDistance scene.grid c.args.cell g c.distance-distance.result) (sym asked.aims) told)
