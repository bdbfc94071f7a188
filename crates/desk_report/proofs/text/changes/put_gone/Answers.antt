use Rattle.desk_report.proofs.Fronts.{front-more, err-of, ok-after, err-after}
use Rattle.desk_report.proofs.text.changes.put_gone.Goals as goal

pub returns-in_err-put_all-clause-err : goal.returns-in_err-put_all-clause-err
returns-in_err-put_all-clause-err g c = err-of c.from_residual.result (front-more _ _ _ _ c.in_err-put_all.ensures.err)

pub returns-clause-ok : goal.returns-clause-ok
returns-clause-ok g c = ok-after _ _ _ _ _ _ c.in_ok-put_all.ensures.ok c.put_into.ensures.ok

pub returns-clause-err : goal.returns-clause-err
returns-clause-err g c = err-after _ _ _ _ _ _ c.in_ok-put_all.ensures.ok c.put_into.ensures.err
