use Rattle.desk_report.specs.Words.{word_text}
use Rattle.desk_report.proofs.Fronts.{err-of}
use Rattle.desk_report.proofs.Lines.{front-item}
use Rattle.solver_check.proofs.checks.json.lists.put_words.Goals as goal

pub returns-in_err-put_word-clause-err : goal.returns-in_err-put_word-clause-err
returns-in_err-put_word-clause-err g c =
    err-of c.from_residual.result (front-item word_text c.args.words.now _ _ _ c.loop-word.word-index c.word-item.result c.word-item.is c.loop-word-test.true c.loop-word.invariant.out c.in_err-put_word.ensures.err)
