use Rattle.std.proofs.Common.{ℕ, List, ◌++◌, length}
use Rattle.std.specs.Prelude.{codes}
use Rattle.std.proofs.KnownBytes.{Appends-trans}
use Rattle.desk_report.specs.ReportText.{count_line, totals_text}
use Rattle.desk_report.specs.declared.reports.Report.{Report}
use Rattle.desk_report.proofs.Fronts.{front-more, front-after, err-of, ok-after, err-after}
use Rattle.solver_check.specs.CheckTexts.{count_finished, kinds_text}
use Rattle.solver_check.proofs.checks.quiet.put_quiet.Goals as goal

abbrev agents_line : Report → List ℕ
agents_line r = count_line (codes "agents") (length r.lines)

abbrev finished_line : Report → List ℕ
finished_line r = count_line (codes "finished") (count_finished r.lines)

abbrev conflicts_line : Report → List ℕ
conflicts_line r = count_line (codes "conflicts") (length r.conflicts)

abbrev kinds_line : Report → List ℕ
kinds_line r = kinds_text r.conflicts

abbrev blocked_line : Report → List ℕ
blocked_line r = count_line (codes "blocked") (length r.visits)

abbrev totals_line : Report → List ℕ
totals_line r = totals_text r

pub returns-in_err-put_count-clause-err : goal.returns-in_err-put_count-clause-err
returns-in_err-put_count-clause-err g c =
    let r = c.args.report.now in
    err-of c.from_residual.result
    (front-more _ _ (agents_line r ++ finished_line r ++ conflicts_line r ++ kinds_line r ++ blocked_line r) (totals_line r)
    (front-more _ _ (agents_line r ++ finished_line r ++ conflicts_line r ++ kinds_line r) (blocked_line r)
    (front-more _ _ (agents_line r ++ finished_line r ++ conflicts_line r) (kinds_line r)
    (front-more _ _ (agents_line r ++ finished_line r) (conflicts_line r)
    (front-more _ _ (agents_line r) (finished_line r)
    (rw c.items-lines.ensures at c.in_err-put_count.ensures.err))))))

pub returns-in_err-put_count-2-clause-err : goal.returns-in_err-put_count-2-clause-err
returns-in_err-put_count-2-clause-err g c =
    let r = c.args.report.now in
    let first = rw c.items-lines.ensures at c.in_ok-put_count.ensures.ok in
    err-of c.from_residual-in_err-put_count-2.result
    (front-more _ _ (agents_line r ++ finished_line r ++ conflicts_line r ++ kinds_line r ++ blocked_line r) (totals_line r)
    (front-more _ _ (agents_line r ++ finished_line r ++ conflicts_line r ++ kinds_line r) (blocked_line r)
    (front-more _ _ (agents_line r ++ finished_line r ++ conflicts_line r) (kinds_line r)
    (front-more _ _ (agents_line r ++ finished_line r) (conflicts_line r)
    (front-after _ _ _ (agents_line r) (finished_line r) first (rw c.items-lines.ensures at (rw c.count_finished.ensures at c.in_err-put_count-2.ensures.err)))))))

pub returns-in_err-put_count-3-clause-err : goal.returns-in_err-put_count-3-clause-err
returns-in_err-put_count-3-clause-err g c =
    let r = c.args.report.now in
    let first = rw c.items-lines.ensures at c.in_ok-put_count.ensures.ok in
    let two = Appends-trans _ _ _ (agents_line r) (finished_line r) first (rw c.items-lines.ensures at (rw c.count_finished.ensures at c.in_ok-put_count-2.ensures.ok)) in
    err-of c.from_residual-in_err-put_count-3.result
    (front-more _ _ (agents_line r ++ finished_line r ++ conflicts_line r ++ kinds_line r ++ blocked_line r) (totals_line r)
    (front-more _ _ (agents_line r ++ finished_line r ++ conflicts_line r ++ kinds_line r) (blocked_line r)
    (front-more _ _ (agents_line r ++ finished_line r ++ conflicts_line r) (kinds_line r)
    (front-after _ _ _ (agents_line r ++ finished_line r) (conflicts_line r) two (rw c.items-entries.ensures at c.in_err-put_count-3.ensures.err)))))

pub returns-in_err-put_kinds-clause-err : goal.returns-in_err-put_kinds-clause-err
returns-in_err-put_kinds-clause-err g c =
    let r = c.args.report.now in
    let first = rw c.items-lines.ensures at c.in_ok-put_count.ensures.ok in
    let two = Appends-trans _ _ _ (agents_line r) (finished_line r) first (rw c.items-lines.ensures at (rw c.count_finished.ensures at c.in_ok-put_count-2.ensures.ok)) in
    let three = Appends-trans _ _ _ (agents_line r ++ finished_line r) (conflicts_line r) two (rw c.items-entries.ensures at c.in_ok-put_count-3.ensures.ok) in
    err-of c.from_residual-in_err-put_kinds.result
    (front-more _ _ (agents_line r ++ finished_line r ++ conflicts_line r ++ kinds_line r ++ blocked_line r) (totals_line r)
    (front-more _ _ (agents_line r ++ finished_line r ++ conflicts_line r ++ kinds_line r) (blocked_line r)
    (front-after _ _ _ (agents_line r ++ finished_line r ++ conflicts_line r) (kinds_line r) three (rw c.items-entries.ensures at c.in_err-put_kinds.ensures.err))))

pub returns-in_err-put_count-4-clause-err : goal.returns-in_err-put_count-4-clause-err
returns-in_err-put_count-4-clause-err g c =
    let r = c.args.report.now in
    let first = rw c.items-lines.ensures at c.in_ok-put_count.ensures.ok in
    let two = Appends-trans _ _ _ (agents_line r) (finished_line r) first (rw c.items-lines.ensures at (rw c.count_finished.ensures at c.in_ok-put_count-2.ensures.ok)) in
    let three = Appends-trans _ _ _ (agents_line r ++ finished_line r) (conflicts_line r) two (rw c.items-entries.ensures at c.in_ok-put_count-3.ensures.ok) in
    let four = Appends-trans _ _ _ (agents_line r ++ finished_line r ++ conflicts_line r) (kinds_line r) three (rw c.items-entries.ensures at c.in_ok-put_kinds.ensures.ok) in
    err-of c.from_residual-in_err-put_count-4.result
    (front-more _ _ (agents_line r ++ finished_line r ++ conflicts_line r ++ kinds_line r ++ blocked_line r) (totals_line r)
    (front-after _ _ _ (agents_line r ++ finished_line r ++ conflicts_line r ++ kinds_line r) (blocked_line r) four (rw c.items.ensures at c.in_err-put_count-4.ensures.err)))

pub returns-clause-ok : goal.returns-clause-ok
returns-clause-ok g c =
    let agents = Appends-trans _ _ _ _ _ c.in_ok-put_count.ensures.ok (rw c.count_finished.ensures at c.in_ok-put_count-2.ensures.ok) in
    let entries = Appends-trans _ _ _ _ _ (Appends-trans _ _ _ _ _ agents c.in_ok-put_count-3.ensures.ok) c.in_ok-put_kinds.ensures.ok in
    let all = Appends-trans _ _ _ _ _ entries c.in_ok-put_count-4.ensures.ok in
    rw (c.items-lines.ensures, c.items-entries.ensures, c.items.ensures) at (ok-after _ _ _ _ _ _ all c.put_totals.ensures.ok)

pub returns-clause-err : goal.returns-clause-err
returns-clause-err g c =
    let r = c.args.report.now in
    let first = rw c.items-lines.ensures at c.in_ok-put_count.ensures.ok in
    let two = Appends-trans _ _ _ (agents_line r) (finished_line r) first (rw c.items-lines.ensures at (rw c.count_finished.ensures at c.in_ok-put_count-2.ensures.ok)) in
    let three = Appends-trans _ _ _ (agents_line r ++ finished_line r) (conflicts_line r) two (rw c.items-entries.ensures at c.in_ok-put_count-3.ensures.ok) in
    let four = Appends-trans _ _ _ (agents_line r ++ finished_line r ++ conflicts_line r) (kinds_line r) three (rw c.items-entries.ensures at c.in_ok-put_kinds.ensures.ok) in
    let five = Appends-trans _ _ _ (agents_line r ++ finished_line r ++ conflicts_line r ++ kinds_line r) (blocked_line r) four (rw c.items.ensures at c.in_ok-put_count-4.ensures.ok) in
    err-after _ _ _ _ (agents_line r ++ finished_line r ++ conflicts_line r ++ kinds_line r ++ blocked_line r) (totals_line r) five c.put_totals.ensures.err
