use Rattle.live_report.proofs.Fleets.{books_take}
use Rattle.live_report.proofs.prices.PriceBooks.take.Goals as goal

pub returns-clause-kept : goal.returns-clause-kept
returns-clause-kept c = λ grid fleet are at.
    books_take grid fleet _ c.args.agent c.args.goal c.take.new.self c.lose.new.self.aims c.lose.new.self.fields
    (rw (← c.self.view_is) at are) at c.take.ensures.row c.take.ensures.by_agent (c.take.ensures.stands grid) c.lose.ensures.aims (c.lose.ensures.stand grid) c.lose.ensures.held

pub returns-clause-stand : goal.returns-clause-stand
returns-clause-stand c = λ grid stand. c.lose.ensures.stand grid (rw (← c.self.view_is) at stand)
