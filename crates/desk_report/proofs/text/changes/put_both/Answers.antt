use Rattle.desk_report.proofs.Fronts.{front-more, err-of, ok-after, err-after}
use Rattle.desk_report.proofs.text.changes.put_both.Goals as goal

pub returns-in_err-put_each_gone-clause-err : goal.returns-in_err-put_each_gone-clause-err
returns-in_err-put_each_gone-clause-err g c = err-of c.from_residual.result (front-more _ _ _ _ c.in_err-put_each_gone.ensures.err)

pub returns-clause-ok : goal.returns-clause-ok
returns-clause-ok g c = ok-after _ _ _ _ _ _ c.in_ok-put_each_gone.ensures.ok c.put_each.ensures.ok

pub returns-clause-err : goal.returns-clause-err
returns-clause-err g c = err-after _ _ _ _ _ _ c.in_ok-put_each_gone.ensures.ok c.put_each.ensures.err
