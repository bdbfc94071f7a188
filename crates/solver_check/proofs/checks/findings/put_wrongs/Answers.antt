use Rattle.desk_report.proofs.Fronts.{err-of}
use Rattle.desk_report.proofs.Lines.{front-item}
use Rattle.solver_check.specs.FindingTexts.{wrong_line}
use Rattle.solver_check.proofs.checks.findings.put_wrongs.Goals as goal

pub returns-in_err-put_wrong-clause-err : goal.returns-in_err-put_wrong-clause-err
returns-in_err-put_wrong-clause-err g c =
    err-of c.from_residual.result (front-item wrong_line c.args.wrongs.now _ _ _ c.loop-wrong.wrong-index c.wrong-item.result c.wrong-item.is c.loop-wrong-test.true c.loop-wrong.invariant.out c.in_err-put_wrong.ensures.err)
