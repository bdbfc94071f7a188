use Rattle.desk_report.proofs.Fronts.{front-more, err-of, ok-after, err-after}
use Rattle.desk_report.proofs.text.changes.put_changed.Goals as goal

pub returns-in_err-put_count-clause-err : goal.returns-in_err-put_count-clause-err
returns-in_err-put_count-clause-err g c = err-of c.from_residual.result (front-more _ _ _ _ c.in_err-put_count.ensures.err)

pub returns-clause-ok : goal.returns-clause-ok
returns-clause-ok g c = ok-after _ _ _ _ _ _ c.in_ok-put_count.ensures.ok (rw (c.items-lost.ensures, c.items-found.ensures) at c.put_both.ensures.ok)

pub returns-clause-err : goal.returns-clause-err
returns-clause-err g c = err-after _ _ _ _ _ _ c.in_ok-put_count.ensures.ok (rw (c.items-lost.ensures, c.items-found.ensures) at c.put_both.ensures.err)
