use Rattle.std.proofs.Common.{◌∷◌}
use Rattle.desk_report.specs.Words.{word_text}
use Rattle.desk_report.specs.declared.words.Word.{Word}
use Rattle.desk_report.proofs.Fronts.{err-of}
use Rattle.desk_report.proofs.Lines.{front-item}
use Rattle.desk_report.proofs.words.put_more.Goals as goal

pub returns-in_err-put_next-clause-err : goal.returns-in_err-put_next-clause-err
returns-in_err-put_next-clause-err g c =
    err-of c.from_residual.result (front-item (λ (word : Word). 32 ∷ word_text word) c.args.words.now _ _ _ c.loop-word.word-index c.word-item.result c.word-item.is c.loop-word-test.true c.loop-word.invariant.out c.in_err-put_next.ensures.err)
