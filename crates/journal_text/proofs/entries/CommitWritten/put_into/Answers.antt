use Rattle.desk_report.proofs.Fronts.{front-more, front-after, err-of, ok-after, err-after}
use Rattle.journal_text.proofs.RouteLines.{text-entry}
use Rattle.journal_text.proofs.entries.CommitWritten.put_into.Goals as goal

pub returns-in_err-put_head-clause-err : goal.returns-in_err-put_head-clause-err
returns-in_err-put_head-clause-err g c =
    let head = rw c.head_of-head.ensures.is at c.in_err-put_head.ensures.err in
    rw (text-entry c.args.self.now) (err-of c.from_residual.result (front-more _ _ _ _ head))

pub returns-in_err-put_each-clause-err : goal.returns-in_err-put_each-clause-err
returns-in_err-put_each-clause-err g c =
    let head = rw c.head_of-head.ensures.is at c.in_ok-put_head.ensures.ok in
    let watch = rw c.watch-watch.ensures.is at c.in_err-put_each.ensures.err in
    rw (text-entry c.args.self.now) (err-of c.from_residual-in_err-put_each.result (front-after _ _ _ _ _ head (front-more _ _ _ _ watch)))

pub returns-clause-ok : goal.returns-clause-ok
returns-clause-ok g c =
    let head = rw c.head_of-head.ensures.is at c.in_ok-put_head.ensures.ok in
    let watch = rw c.watch-watch.ensures.is at c.in_ok-put_each.ensures.ok in
    rw (text-entry c.args.self.now) (ok-after _ _ _ _ _ _ head (ok-after _ _ _ _ _ _ watch (rw c.edits-edits.ensures.is at c.put_each-2.ensures.ok)))

pub returns-clause-err : goal.returns-clause-err
returns-clause-err g c =
    let head = rw c.head_of-head.ensures.is at c.in_ok-put_head.ensures.ok in
    let watch = rw c.watch-watch.ensures.is at c.in_ok-put_each.ensures.ok in
    rw (text-entry c.args.self.now) (err-after _ _ _ _ _ _ head (err-after _ _ _ _ _ _ watch (rw c.edits-edits.ensures.is at c.put_each-2.ensures.err)))
