use Rattle.desk_report.proofs.Fronts.{front-more, err-of, ok-after, err-after}
use Rattle.desk_pages.proofs.courses.put_scene.Goals as goal

pub returns-in_err-put_all-clause-err : goal.returns-in_err-put_all-clause-err
returns-in_err-put_all-clause-err g c = err-of c.from_residual.result (front-more _ _ _ _ (rw c.requires at c.in_err-put_all.ensures.err))

pub returns-clause-ok : goal.returns-clause-ok
returns-clause-ok g c = ok-after _ _ _ _ _ _ (rw c.requires at c.in_ok-put_all.ensures.ok) (rw c.plans.ensures.rows at c.put_rows.ensures.ok)

pub returns-clause-err : goal.returns-clause-err
returns-clause-err g c = err-after _ _ _ _ _ _ (rw c.requires at c.in_ok-put_all.ensures.ok) (rw c.plans.ensures.rows at c.put_rows.ensures.err)
