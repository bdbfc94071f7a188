use Rattle.journal_text.specs.Ranges.{IsEdit}
use Rattle.journal_text.specs.Lines.{edit_words}
use Rattle.journal_text.proofs.ReadLines.{request_of-edit, named}
use Rattle.journal_text.proofs.lines.edit_of.Goals as goal

pub returns-in_default : goal.returns-in_default
returns-in_default c = λ edit lawful same. c.in_default.not-Edit edit (rw (request_of-edit c.args.line.now edit lawful same) at c.in_ok-edit.ensures)

pub returns : goal.returns
returns c = named IsEdit edit_words c.args.line.now c.in-Edit.edit c.spelled.result
    (λ edit lawful same. let asked = rw (request_of-edit c.args.line.now edit lawful same) at c.in_ok-edit.ensures in let is = c.in-Edit.is in cc) c.spelled.ensures
