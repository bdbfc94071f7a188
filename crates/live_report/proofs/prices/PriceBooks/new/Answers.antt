use Rattle.live_report.proofs.Fleets.{no_books}
use Rattle.live_report.proofs.prices.PriceBooks.new.Goals as goal

pub returns : goal.returns
returns c = λ grid. no_books grid _ c.new.ensures.rows (c.new.ensures.stands grid) c.new-2.ensures.aims c.new-2.ensures.fields
