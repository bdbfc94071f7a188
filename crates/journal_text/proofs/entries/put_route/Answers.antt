use Rattle.std.proofs.KnownBytes.{Appends-trans}
use Rattle.desk_report.specs.LineText.{cell_text}
use Rattle.desk_report.specs.Words.{word_text}
use Rattle.desk_report.proofs.Fronts.{front-more, front-after, err-of, ok-after, err-after}
use Rattle.journal_text.proofs.RouteLines.{route-line}
use Rattle.journal_text.proofs.entries.put_route.Goals as goal

pub returns-in_err-put_all-clause-err : goal.returns-in_err-put_all-clause-err
returns-in_err-put_all-clause-err g c =
    rw (route-line word_text cell_text c.args.name.now c.args.words.now c.args.cells.now)
    (err-of c.from_residual.result (front-more _ _ _ _ (front-more _ _ _ _ (front-more _ _ _ _ c.in_err-put_all.ensures.err))))

pub returns-in_err-put_more-clause-err : goal.returns-in_err-put_more-clause-err
returns-in_err-put_more-clause-err g c =
    rw (route-line word_text cell_text c.args.name.now c.args.words.now c.args.cells.now)
    (err-of c.from_residual-in_err-put_more.result (front-more _ _ _ _ (front-more _ _ _ _ (front-after _ _ _ _ _ c.in_ok-put_all.ensures.ok c.in_err-put_more.ensures.err))))

pub returns-in_err-put_each-clause-err : goal.returns-in_err-put_each-clause-err
returns-in_err-put_each-clause-err g c =
    rw (route-line word_text cell_text c.args.name.now c.args.words.now c.args.cells.now)
    (err-of c.from_residual-in_err-put_each.result (front-more _ _ _ _ (front-after _ _ _ _ _ (Appends-trans _ _ _ _ _ c.in_ok-put_all.ensures.ok c.in_ok-put_more.ensures.ok) c.in_err-put_each.ensures.err)))

pub returns-clause-ok : goal.returns-clause-ok
returns-clause-ok g c =
    rw (route-line word_text cell_text c.args.name.now c.args.words.now c.args.cells.now)
    (ok-after _ _ _ _ _ _ (Appends-trans _ _ _ _ _ (Appends-trans _ _ _ _ _ c.in_ok-put_all.ensures.ok c.in_ok-put_more.ensures.ok) c.in_ok-put_each.ensures.ok) c.put_all-2.ensures.ok)

pub returns-clause-err : goal.returns-clause-err
returns-clause-err g c =
    rw (route-line word_text cell_text c.args.name.now c.args.words.now c.args.cells.now)
    (err-after _ _ _ _ _ _ (Appends-trans _ _ _ _ _ (Appends-trans _ _ _ _ _ c.in_ok-put_all.ensures.ok c.in_ok-put_more.ensures.ok) c.in_ok-put_each.ensures.ok) c.put_all-2.ensures.err)
