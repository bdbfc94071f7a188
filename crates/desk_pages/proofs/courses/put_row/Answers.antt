use Rattle.desk_report.proofs.Fronts.{front-more, err-of, ok-after, err-after}
use Rattle.desk_pages.proofs.courses.put_row.Goals as goal

pub returns-in_err-put_course-clause-err : goal.returns-in_err-put_course-clause-err
returns-in_err-put_course-clause-err g c = err-of c.from_residual.result (front-more _ _ _ _ (rw c.ends_of.ensures at c.in_err-put_course.ensures.err))

pub returns-clause-ok : goal.returns-clause-ok
returns-clause-ok g c = ok-after _ _ _ _ _ _ (rw c.ends_of.ensures at c.in_ok-put_course.ensures.ok) (rw c.cells.ensures.is at c.put_course-2.ensures.ok)

pub returns-clause-err : goal.returns-clause-err
returns-clause-err g c = err-after _ _ _ _ _ _ (rw c.ends_of.ensures at c.in_ok-put_course.ensures.ok) (rw c.cells.ensures.is at c.put_course-2.ensures.err)
