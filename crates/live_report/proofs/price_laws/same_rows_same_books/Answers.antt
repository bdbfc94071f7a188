use Rattle.live_report.proofs.Fleets.{same_books}
use Rattle.live_report.proofs.price_laws.same_rows_same_books.Goals as goal

pub returns : goal.returns
returns c = same_books
