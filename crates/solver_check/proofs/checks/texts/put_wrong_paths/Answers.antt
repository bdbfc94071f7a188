use Rattle.desk_report.proofs.Fronts.{front-more, err-of, ok-after, err-after}
use Rattle.solver_check.proofs.checks.texts.put_wrong_paths.Goals as goal

pub returns-in_err-put_wrongs-clause-err : goal.returns-in_err-put_wrongs-clause-err
returns-in_err-put_wrongs-clause-err g c = err-of c.from_residual.result (front-more _ _ _ _ c.in_err-put_wrongs.ensures.err)

pub returns-clause-ok : goal.returns-clause-ok
returns-clause-ok g c = ok-after _ _ _ _ _ _ c.in_ok-put_wrongs.ensures.ok c.put_differences.ensures.ok

pub returns-clause-err : goal.returns-clause-err
returns-clause-err g c = err-after _ _ _ _ _ _ c.in_ok-put_wrongs.ensures.ok c.put_differences.ensures.err
