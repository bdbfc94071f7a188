use Rattle.std.proofs.Common.{◌∙◌}
use Rattle.live_report.proofs.Cells.{same_if, apart_if}
use Rattle.live_report.proofs.Fleets.{books_moved, books_stay}
use Rattle.live_report.proofs.prices.PriceBooks.aim.Goals as goal

pub returns-then-eq-clause-kept : goal.returns-then-eq-clause-kept
returns-then-eq-clause-kept c = λ fleet row are live same.
    books_stay c.args.grid.now fleet c.args.self c.args.agent row c.args.goal are live (same ∙ same_if c.args.before c.args.goal c.if-eq.ensures)

pub returns-clause-kept : goal.returns-clause-kept
returns-clause-kept c = λ fleet row are live same.
    let goals = c.in-Ok.ensures in
    books_moved c.args.grid.now fleet _ c.args.agent row c.args.before c.args.goal c.aim.new.self c.in-Ok.goals.aims c.lose.new.self.aims c.lose.new.self.fields
    (rw (← c.self.view_is) at are) live same (apart_if c.args.before c.args.goal c.if-eq.ensures)
    c.aim.ensures.row c.aim.ensures.by_agent (c.aim.ensures.stands c.args.grid.now) goals.aims c.lose.ensures.aims (c.lose.ensures.stand c.args.grid.now goals.stand) c.lose.ensures.held

pub returns-clause-stand : goal.returns-clause-stand
returns-clause-stand c = c.lose.ensures.stand c.args.grid.now c.in-Ok.ensures.stand
