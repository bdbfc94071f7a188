use Rattle.desk_report.proofs.Fronts.{front-more, err-of, ok-after, err-after}
use Rattle.shared_runs.specs.Drills.{same_line}
use Rattle.session_protocol.specs.Replies.{reported_text}
use Rattle.shared_runs.proofs.reporting.put_drill.Goals as goal

pub returns-in_err-put_report-clause-err : goal.returns-in_err-put_report-clause-err
returns-in_err-put_report-clause-err g c =
    err-of c.from_residual.result (front-more _ _ (reported_text c.args.reading.now.version c.args.reading.now.report) (same_line c.args.same) c.in_err-put_report.ensures.err)

pub returns-clause-ok : goal.returns-clause-ok
returns-clause-ok g c =
    ok-after c.put_same.result _ _ _ (reported_text c.args.reading.now.version c.args.reading.now.report) (same_line c.args.same) c.in_ok-put_report.ensures.ok c.put_same.ensures.ok

pub returns-clause-err : goal.returns-clause-err
returns-clause-err g c =
    err-after c.put_same.result _ _ _ (reported_text c.args.reading.now.version c.args.reading.now.report) (same_line c.args.same) c.in_ok-put_report.ensures.ok c.put_same.ensures.err
