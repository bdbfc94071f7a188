use Rattle.desk_report.proofs.Fronts.{front-more, err-of, err-after}
use Rattle.session_protocol.proofs.writers.put_report.Goals as goal

pub returns-in_err-put_version-clause-err : goal.returns-in_err-put_version-clause-err
returns-in_err-put_version-clause-err g c = err-of c.from_residual.result (front-more _ _ _ _ c.in_err-put_version.ensures.err)

pub returns-clause-err : goal.returns-clause-err
returns-clause-err g c = err-after _ _ _ _ _ _ c.in_ok-put_version.ensures.ok c.write_report.ensures.err
