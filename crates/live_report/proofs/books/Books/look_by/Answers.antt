use Rattle.std.proofs.lemmas.Result.{IfOk-weaker}
use Rattle.plan_table.specs.Plans.{row_of}
use Rattle.live_report.specs.Looks.{AreCurrent}
use Rattle.live_report.proofs.books.Books.look_by.Goals as goal

pub returns : goal.returns
returns c =
    let scene = c.args.scene.now in
    let was = rw (← c.self.view_is) at c.requires.books in
    let now : AreCurrent scene.grid (row_of scene.rows) c.args.lines.now c.costs.result.now = record {
      lines = c.requires.lines;
      rows = rw c.costs.ensures was.prices.rows;
      costs = rw c.costs.ensures was.prices.costs;
      paths = λ agent row live. let on = c.plans-plans.ensures.scene.on_map agent row live in record { path_is = on.path; held = on.cells };
    } in
    IfOk-weaker c.look_at.result _ _ (λ look is. is scene.grid (row_of scene.rows) now) c.look_at.ensures
