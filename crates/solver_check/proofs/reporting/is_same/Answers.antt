use Rattle.solver_check.proofs.SameReports.{report_decides, answers_as}
use Rattle.solver_check.proofs.reporting.is_same.Goals as goal

pub returns : goal.returns
returns c = answers_as _ _ _ c.eq.ensures (report_decides c.args.report.now c.args.other.now)
