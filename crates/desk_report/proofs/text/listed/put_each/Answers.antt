use Rattle.desk_report.proofs.Fronts.{err-of}
use Rattle.desk_report.proofs.Lines.{front-item}
use Rattle.desk_report.proofs.text.listed.put_each.Goals as goal

pub returns-in_err-put_into-clause-err : goal.returns-in_err-put_into-clause-err
returns-in_err-put_into-clause-err g c =
    err-of c.from_residual.result (front-item g.L.Listed.line c.args.list.now _ _ _ c.loop-item.item-index c.item-item.result c.item-item.is c.loop-item-test.true c.loop-item.invariant.out c.in_err-put_into.ensures.err)
