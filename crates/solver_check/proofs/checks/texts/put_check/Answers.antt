use Rattle.desk_report.proofs.Fronts.{front-more, err-of, ok-after, err-after}
use Rattle.solver_check.specs.CheckTexts.{findings_text, says_yes, verdict_line}
use Rattle.solver_check.proofs.checks.texts.put_check.Goals as goal

pub returns-in_err-put_findings-clause-err : goal.returns-in_err-put_findings-clause-err
returns-in_err-put_findings-clause-err g c =
    let v = c.args.verdict.now in
    err-of c.from_residual.result (front-more _ _ (findings_text c.args.quiet v) (verdict_line (says_yes v)) c.in_err-put_findings.ensures.err)

pub returns-clause-ok : goal.returns-clause-ok
returns-clause-ok g c =
    let v = c.args.verdict.now in
    ok-after _ _ _ _ (findings_text c.args.quiet v) (verdict_line (says_yes v)) c.in_ok-put_findings.ensures.ok (rw c.says_yes.ensures at c.put_line.ensures.ok)

pub returns-clause-err : goal.returns-clause-err
returns-clause-err g c =
    let v = c.args.verdict.now in
    err-after _ _ _ _ (findings_text c.args.quiet v) (verdict_line (says_yes v)) c.in_ok-put_findings.ensures.ok (rw c.says_yes.ensures at c.put_line.ensures.err)
