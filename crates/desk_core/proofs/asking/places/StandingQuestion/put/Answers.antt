use Rattle.std.proofs.Common.{rules}
use Rattle.live_report.specs.Books.{AreOf}
use Rattle.desk_core.proofs.asking.places.StandingQuestion.put.Goals as goal

pub returns-in-Ok-clause-answer : goal.returns-in-Ok-clause-answer
returns-in-Ok-clause-answer c =
    let scene = c.args.desk.now.scene in
    let are : AreOf scene c.in_ok-books.books = c.in_ok-books.ensures.books in
    (search rules, c.in-Ok.ensures scene are)
