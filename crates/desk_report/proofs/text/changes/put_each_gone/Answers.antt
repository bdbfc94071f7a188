use Rattle.desk_report.proofs.Fronts.{err-of}
use Rattle.desk_report.specs.ChangesText.{gone_line}
use Rattle.desk_report.proofs.Lines.{front-item}
use Rattle.desk_report.proofs.text.changes.put_each_gone.Goals as goal

pub returns-in_err-put_gone-clause-err : goal.returns-in_err-put_gone-clause-err
returns-in_err-put_gone-clause-err g c =
    err-of c.from_residual.result (front-item (λ x. gone_line (g.L.Listed.line x)) c.args.gone.now _ _ _ c.loop-item.item-index c.item-item.result c.item-item.is c.loop-item-test.true c.loop-item.invariant.out c.in_err-put_gone.ensures.err)
