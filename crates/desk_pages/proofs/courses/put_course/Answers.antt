use Rattle.std.proofs.KnownBytes.{Appends-trans}
use Rattle.desk_report.proofs.Fronts.{front-more, front-after, err-of, ok-after, err-after}
use Rattle.desk_pages.proofs.courses.put_course.Goals as goal

pub returns-in_err-put_all-clause-err : goal.returns-in_err-put_all-clause-err
returns-in_err-put_all-clause-err g c = err-of c.from_residual.result (front-more _ _ _ _ (front-more _ _ _ _ (front-more _ _ _ _ c.in_err-put_all.ensures.err)))

pub returns-in_err-put_next-clause-err : goal.returns-in_err-put_next-clause-err
returns-in_err-put_next-clause-err g c = err-of c.from_residual-in_err-put_next.result (front-more _ _ _ _ (front-more _ _ _ _ (front-after _ _ _ _ _ c.in_ok-put_all.ensures.ok (rw c.agent.ensures at c.in_err-put_next.ensures.err))))

pub returns-in_err-put_cells-clause-err : goal.returns-in_err-put_cells-clause-err
returns-in_err-put_cells-clause-err g c = err-of c.from_residual-in_err-put_cells.result (front-more _ _ _ _ (front-after _ _ _ _ _ (Appends-trans _ _ _ _ _ c.in_ok-put_all.ensures.ok (rw c.agent.ensures at c.in_ok-put_next.ensures.ok)) c.in_err-put_cells.ensures.err))

pub returns-clause-ok : goal.returns-clause-ok
returns-clause-ok g c = ok-after _ _ _ _ _ _ (Appends-trans _ _ _ _ _ (Appends-trans _ _ _ _ _ c.in_ok-put_all.ensures.ok (rw c.agent.ensures at c.in_ok-put_next.ensures.ok)) c.in_ok-put_cells.ensures.ok) c.put_all-2.ensures.ok

pub returns-clause-err : goal.returns-clause-err
returns-clause-err g c = err-after _ _ _ _ _ _ (Appends-trans _ _ _ _ _ (Appends-trans _ _ _ _ _ c.in_ok-put_all.ensures.ok (rw c.agent.ensures at c.in_ok-put_next.ensures.ok)) c.in_ok-put_cells.ensures.ok) c.put_all-2.ensures.err
