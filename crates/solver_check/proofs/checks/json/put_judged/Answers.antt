use Rattle.std.proofs.Common.{[]}
use Rattle.solver_check.specs.JsonTexts.{findings_json, report_json}
use Rattle.desk_report.proofs.Fronts.{front-more, err-of, ok-after, err-after}
use Rattle.solver_check.proofs.checks.json.put_judged.Goals as goal

pub returns-in_err-put_report-clause-err : goal.returns-in_err-put_report-clause-err
returns-in_err-put_report-clause-err g c =
    err-of c.from_residual.result (front-more _ _ (report_json c.args.quiet c.args.counts c.args.report.now) (findings_json [] c.args.differences.now) c.in_err-put_report.ensures.err)

pub returns-clause-ok : goal.returns-clause-ok
returns-clause-ok g c =
    ok-after _ _ _ _ (report_json c.args.quiet c.args.counts c.args.report.now) (findings_json [] c.args.differences.now) c.in_ok-put_report.ensures.ok c.put_findings.ensures.ok

pub returns-clause-err : goal.returns-clause-err
returns-clause-err g c =
    err-after _ _ _ _ (report_json c.args.quiet c.args.counts c.args.report.now) (findings_json [] c.args.differences.now) c.in_ok-put_report.ensures.ok c.put_findings.ensures.err
