use Rattle.std.proofs.KnownBytes.{Appends-trans}
use Rattle.desk_report.proofs.Fronts.{front-more, front-after, err-of, ok-after, err-after}
use Rattle.desk_pages.proofs.pages.put_kinds.Goals as goal

pub returns-in_err-put_name-clause-err : goal.returns-in_err-put_name-clause-err
returns-in_err-put_name-clause-err g c = err-of c.from_residual.result (front-more _ _ _ _ (front-more _ _ _ _ (front-more _ _ _ _ (front-more _ _ _ _ c.in_err-put_name.ensures.err))))

pub returns-in_err-put_name-2-clause-err : goal.returns-in_err-put_name-2-clause-err
returns-in_err-put_name-2-clause-err g c = err-of c.from_residual-in_err-put_name-2.result (front-more _ _ _ _ (front-more _ _ _ _ (front-more _ _ _ _ (front-after _ _ _ _ _ c.in_ok-put_name.ensures.ok c.in_err-put_name-2.ensures.err))))

pub returns-in_err-put_name-3-clause-err : goal.returns-in_err-put_name-3-clause-err
returns-in_err-put_name-3-clause-err g c = err-of c.from_residual-in_err-put_name-3.result (front-more _ _ _ _ (front-more _ _ _ _ (front-after _ _ _ _ _ (Appends-trans _ _ _ _ _ c.in_ok-put_name.ensures.ok c.in_ok-put_name-2.ensures.ok) c.in_err-put_name-3.ensures.err)))

pub returns-in_err-put_name-4-clause-err : goal.returns-in_err-put_name-4-clause-err
returns-in_err-put_name-4-clause-err g c = err-of c.from_residual-in_err-put_name-4.result (front-more _ _ _ _ (front-after _ _ _ _ _ (Appends-trans _ _ _ _ _ (Appends-trans _ _ _ _ _ c.in_ok-put_name.ensures.ok c.in_ok-put_name-2.ensures.ok) c.in_ok-put_name-3.ensures.ok) c.in_err-put_name-4.ensures.err))

pub returns-clause-ok : goal.returns-clause-ok
returns-clause-ok g c = ok-after _ _ _ _ _ _ (Appends-trans _ _ _ _ _ (Appends-trans _ _ _ _ _ (Appends-trans _ _ _ _ _ c.in_ok-put_name.ensures.ok c.in_ok-put_name-2.ensures.ok) c.in_ok-put_name-3.ensures.ok) c.in_ok-put_name-4.ensures.ok) c.put_name-5.ensures.ok

pub returns-clause-err : goal.returns-clause-err
returns-clause-err g c = err-after _ _ _ _ _ _ (Appends-trans _ _ _ _ _ (Appends-trans _ _ _ _ _ (Appends-trans _ _ _ _ _ c.in_ok-put_name.ensures.ok c.in_ok-put_name-2.ensures.ok) c.in_ok-put_name-3.ensures.ok) c.in_ok-put_name-4.ensures.ok) c.put_name-5.ensures.err
