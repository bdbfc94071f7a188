use Rattle.desk_report.proofs.Fronts.{front-more, front-after, err-of, ok-after, err-after}
use Rattle.journal_text.proofs.RouteLines.{text-journal}
use Rattle.journal_text.proofs.writing.write_journal.Goals as goal

pub returns-in_err-put_heading-clause-err : goal.returns-in_err-put_heading-clause-err
returns-in_err-put_heading-clause-err g c =
    rw (text-journal c.args.mode c.args.commits.now) (err-of c.from_residual.result (front-more _ _ _ _ c.in_err-put_heading.ensures.err))

pub returns-in_err-put_each-clause-err : goal.returns-in_err-put_each-clause-err
returns-in_err-put_each-clause-err g c =
    rw (text-journal c.args.mode c.args.commits.now) (err-of c.from_residual-in_err-put_each.result (front-after _ _ _ _ _ c.in_ok-put_heading.ensures.ok (front-more _ _ _ _ c.in_err-put_each.ensures.err)))

pub returns-clause-ok : goal.returns-clause-ok
returns-clause-ok g c =
    rw (text-journal c.args.mode c.args.commits.now) (ok-after _ _ _ _ _ _ c.in_ok-put_heading.ensures.ok (ok-after _ _ _ _ _ _ c.in_ok-put_each.ensures.ok c.put_line.ensures.ok))

pub returns-clause-err : goal.returns-clause-err
returns-clause-err g c =
    rw (text-journal c.args.mode c.args.commits.now) (err-after _ _ _ _ _ _ c.in_ok-put_heading.ensures.ok (err-after _ _ _ _ _ _ c.in_ok-put_each.ensures.ok c.put_line.ensures.err))
