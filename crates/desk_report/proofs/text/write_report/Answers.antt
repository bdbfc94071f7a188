use Rattle.std.proofs.Common.{ℕ, List, ◌++◌}
use Rattle.std.specs.Prelude.{Option}
use Rattle.std.specs.Io.KnownBytes.{Appends}
use Rattle.std.proofs.KnownBytes.{Appends-trans}
use Rattle.desk_report.specs.ReportText.{agents_text, conflicts_text, visits_text, totals_text}
use Rattle.desk_report.specs.declared.reports.Report.{Report}
use Rattle.desk_report.proofs.Fronts.{front-more, front-after, err-of, ok-after, err-after}
use Rattle.desk_report.proofs.text.write_report.Goals as goal

pub returns-in_err-put_list-clause-err : goal.returns-in_err-put_list-clause-err
returns-in_err-put_list-clause-err g c =
    let r = c.args.report.now in
    let stopped = c.in_err-put_list.ensures.err in
    err-of c.from_residual.result
    (front-more _ _ (agents_text r.lines ++ conflicts_text r.conflicts ++ visits_text r.visits) (totals_text r)
    (front-more _ _ (agents_text r.lines ++ conflicts_text r.conflicts) (visits_text r.visits)
    (front-more _ _ (agents_text r.lines) (conflicts_text r.conflicts) stopped)))

pub returns-in_err-put_list-2-clause-err : goal.returns-in_err-put_list-2-clause-err
returns-in_err-put_list-2-clause-err g c =
    let r = c.args.report.now in
    let first = c.in_ok-put_list.ensures.ok in
    let stopped = c.in_err-put_list-2.ensures.err in
    err-of c.from_residual-in_err-put_list-2.result
    (front-more _ _ (agents_text r.lines ++ conflicts_text r.conflicts ++ visits_text r.visits) (totals_text r)
    (front-more _ _ (agents_text r.lines ++ conflicts_text r.conflicts) (visits_text r.visits)
    (front-after _ _ _ (agents_text r.lines) (conflicts_text r.conflicts) first stopped)))

pub returns-in_err-put_list-3-clause-err : goal.returns-in_err-put_list-3-clause-err
returns-in_err-put_list-3-clause-err g c =
    let r = c.args.report.now in
    let first = c.in_ok-put_list.ensures.ok in
    let second = c.in_ok-put_list-2.ensures.ok in
    let stopped = c.in_err-put_list-3.ensures.err in
    err-of c.from_residual-in_err-put_list-3.result
    (front-more _ _ (agents_text r.lines ++ conflicts_text r.conflicts ++ visits_text r.visits) (totals_text r)
    (front-after _ _ _ (agents_text r.lines ++ conflicts_text r.conflicts) (visits_text r.visits) (Appends-trans _ _ _ (agents_text r.lines) (conflicts_text r.conflicts) first second) stopped))

-- the three lists, one behind the other
lists : (a b c d : Option (List ℕ)) (r : Report) → Appends a b (agents_text r.lines) → Appends b c (conflicts_text r.conflicts) → Appends c d (visits_text r.visits)
    → Appends a d (agents_text r.lines ++ conflicts_text r.conflicts ++ visits_text r.visits)
lists a b c d r first second third = Appends-trans _ _ _ (agents_text r.lines ++ conflicts_text r.conflicts) (visits_text r.visits)
    (Appends-trans _ _ _ (agents_text r.lines) (conflicts_text r.conflicts) first second) third

pub returns-clause-ok : goal.returns-clause-ok
returns-clause-ok g c =
    let r = c.args.report.now in
    ok-after _ _ _ _ (agents_text r.lines ++ conflicts_text r.conflicts ++ visits_text r.visits) (totals_text r)
    (lists _ _ _ _ r c.in_ok-put_list.ensures.ok c.in_ok-put_list-2.ensures.ok c.in_ok-put_list-3.ensures.ok) c.put_totals.ensures.ok

pub returns-clause-err : goal.returns-clause-err
returns-clause-err g c =
    let r = c.args.report.now in
    err-after _ _ _ _ (agents_text r.lines ++ conflicts_text r.conflicts ++ visits_text r.visits) (totals_text r)
    (lists _ _ _ _ r c.in_ok-put_list.ensures.ok c.in_ok-put_list-2.ensures.ok c.in_ok-put_list-3.ensures.ok) c.put_totals.ensures.err
