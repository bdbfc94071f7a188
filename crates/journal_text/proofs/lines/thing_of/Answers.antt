use Rattle.journal_text.specs.Ranges.{IsThing}
use Rattle.journal_text.specs.Lines.{watch_words}
use Rattle.journal_text.proofs.ReadLines.{request_of-watch, named}
use Rattle.journal_text.proofs.lines.thing_of.Goals as goal

pub returns-in_default : goal.returns-in_default
returns-in_default c = λ thing lawful same. c.in_default.not-Watch thing (rw (request_of-watch c.args.line.now thing lawful same) at c.in_ok-thing.ensures)

pub returns : goal.returns
returns c = named IsThing watch_words c.args.line.now c.in-Watch.thing c.spelled.result
    (λ thing lawful same. let asked = rw (request_of-watch c.args.line.now thing lawful same) at c.in_ok-thing.ensures in let is = c.in-Watch.is in cc) c.spelled.ensures
