use Rattle.desk_report.proofs.Fronts.{front-more, err-of, err-after}
use Rattle.desk_report.proofs.text.listed.put_list.Goals as goal

pub returns-in_err-put_count-clause-err : goal.returns-in_err-put_count-clause-err
returns-in_err-put_count-clause-err g c = err-of c.from_residual.result (front-more _ _ _ _ (rw c.items-items.ensures at c.in_err-put_count.ensures.err))

pub returns-clause-err : goal.returns-clause-err
returns-clause-err g c = rw c.items-items.ensures at (err-after _ _ _ _ _ _ c.in_ok-put_count.ensures.ok c.put_each.ensures.err)
