use Rattle.desk_report.proofs.Fronts.{err-of}
use Rattle.desk_report.proofs.Lines.{front-item}
use Rattle.solver_check.specs.FindingTexts.{difference_line}
use Rattle.solver_check.proofs.checks.findings.put_differences.Goals as goal

pub returns-in_err-put_difference-clause-err : goal.returns-in_err-put_difference-clause-err
returns-in_err-put_difference-clause-err g c =
    err-of c.from_residual.result (front-item difference_line c.args.differences.now _ _ _ c.loop-difference.difference-index c.difference-item.result c.difference-item.is c.loop-difference-test.true c.loop-difference.invariant.out c.in_err-put_difference.ensures.err)
