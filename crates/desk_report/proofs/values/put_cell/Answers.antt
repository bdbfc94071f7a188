use Rattle.std.proofs.KnownBytes.{Appends-trans}
use Rattle.desk_report.proofs.Fronts.{front-more, front-after, err-of, ok-after, err-after}
use Rattle.desk_report.proofs.values.put_cell.Goals as goal

pub returns-in_err-put_number-clause-err : goal.returns-in_err-put_number-clause-err
returns-in_err-put_number-clause-err g c =
    let column = rw (c.from.ensures, c.x.ensures.column) at c.in_err-put_number.ensures.err in
    err-of c.from_residual.result (front-more _ _ _ _ (front-more _ _ _ _ column))

pub returns-in_err-put_all-clause-err : goal.returns-in_err-put_all-clause-err
returns-in_err-put_all-clause-err g c =
    let column = rw (c.from.ensures, c.x.ensures.column) at c.in_ok-put_number.ensures.ok in
    err-of c.from_residual-in_err-put_all.result (front-more _ _ _ _ (front-after _ _ _ _ _ column c.in_err-put_all.ensures.err))

pub returns-clause-ok : goal.returns-clause-ok
returns-clause-ok g c =
    let column = rw (c.from.ensures, c.x.ensures.column) at c.in_ok-put_number.ensures.ok in
    let row = rw (c.from-2.ensures, c.y.ensures.row) at c.put_number-2.ensures.ok in
    ok-after _ _ _ _ _ _ (Appends-trans _ _ _ _ _ column c.in_ok-put_all.ensures.ok) row

pub returns-clause-err : goal.returns-clause-err
returns-clause-err g c =
    let column = rw (c.from.ensures, c.x.ensures.column) at c.in_ok-put_number.ensures.ok in
    let row = rw (c.from-2.ensures, c.y.ensures.row) at c.put_number-2.ensures.err in
    err-after _ _ _ _ _ _ (Appends-trans _ _ _ _ _ column c.in_ok-put_all.ensures.ok) row
