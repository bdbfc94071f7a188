use Rattle.std.proofs.Common.{ℕ, List, [], ◌∷◌, ◌++◌}
use Rattle.std.specs.Prelude.{codes}
use Rattle.std.proofs.KnownBytes.{Appends-trans}
use Rattle.desk_report.specs.LineText.{line_text}
use Rattle.desk_report.specs.ReportText.{total_line}
use Rattle.desk_report.specs.declared.reports.Report.{Report}
use Rattle.desk_report.proofs.Fronts.{front-more, front-after, err-of, err-after}
use Rattle.desk_report.proofs.text.totals.put_totals.Goals as goal

abbrev sum_line : Report → List ℕ
sum_line report = total_line (codes "sum") report.sum

abbrev makespan_line : Report → List ℕ
makespan_line report = total_line (codes "makespan") report.makespan

abbrev bounds_line : Report → List ℕ
bounds_line report = total_line (codes "bounds") report.bounds

abbrev gap_line : Report → List ℕ
gap_line report = total_line (codes "gap") report.total_gap

abbrev end_line : List ℕ
end_line = line_text (codes "end" ∷ [])

pub returns-in_err-put_total-clause-err : goal.returns-in_err-put_total-clause-err
returns-in_err-put_total-clause-err g c =
    let r = c.args.report.now in
    err-of c.from_residual.result
    (front-more _ _ (sum_line r ++ makespan_line r ++ bounds_line r ++ gap_line r) end_line
    (front-more _ _ (sum_line r ++ makespan_line r ++ bounds_line r) (gap_line r)
    (front-more _ _ (sum_line r ++ makespan_line r) (bounds_line r)
    (front-more _ _ (sum_line r) (makespan_line r) c.in_err-put_total.ensures.err))))

pub returns-in_err-put_makespan-clause-err : goal.returns-in_err-put_makespan-clause-err
returns-in_err-put_makespan-clause-err g c =
    let r = c.args.report.now in
    err-of c.from_residual-in_err-put_makespan.result
    (front-more _ _ (sum_line r ++ makespan_line r ++ bounds_line r ++ gap_line r) end_line
    (front-more _ _ (sum_line r ++ makespan_line r ++ bounds_line r) (gap_line r)
    (front-more _ _ (sum_line r ++ makespan_line r) (bounds_line r)
    (front-after _ _ _ (sum_line r) (makespan_line r) c.in_ok-put_total.ensures.ok c.in_err-put_makespan.ensures.err))))

pub returns-in_err-put_total-2-clause-err : goal.returns-in_err-put_total-2-clause-err
returns-in_err-put_total-2-clause-err g c =
    let r = c.args.report.now in
    let two = Appends-trans _ _ _ (sum_line r) (makespan_line r) c.in_ok-put_total.ensures.ok c.in_ok-put_makespan.ensures.ok in
    err-of c.from_residual-in_err-put_total-2.result
    (front-more _ _ (sum_line r ++ makespan_line r ++ bounds_line r ++ gap_line r) end_line
    (front-more _ _ (sum_line r ++ makespan_line r ++ bounds_line r) (gap_line r)
    (front-after _ _ _ (sum_line r ++ makespan_line r) (bounds_line r) two c.in_err-put_total-2.ensures.err)))

pub returns-in_err-put_total-3-clause-err : goal.returns-in_err-put_total-3-clause-err
returns-in_err-put_total-3-clause-err g c =
    let r = c.args.report.now in
    let two = Appends-trans _ _ _ (sum_line r) (makespan_line r) c.in_ok-put_total.ensures.ok c.in_ok-put_makespan.ensures.ok in
    let three = Appends-trans _ _ _ (sum_line r ++ makespan_line r) (bounds_line r) two c.in_ok-put_total-2.ensures.ok in
    err-of c.from_residual-in_err-put_total-3.result
    (front-more _ _ (sum_line r ++ makespan_line r ++ bounds_line r ++ gap_line r) end_line
    (front-after _ _ _ (sum_line r ++ makespan_line r ++ bounds_line r) (gap_line r) three c.in_err-put_total-3.ensures.err))

pub returns-clause-err : goal.returns-clause-err
returns-clause-err g c =
    let r = c.args.report.now in
    let two = Appends-trans _ _ _ (sum_line r) (makespan_line r) c.in_ok-put_total.ensures.ok c.in_ok-put_makespan.ensures.ok in
    let three = Appends-trans _ _ _ (sum_line r ++ makespan_line r) (bounds_line r) two c.in_ok-put_total-2.ensures.ok in
    let four = Appends-trans _ _ _ (sum_line r ++ makespan_line r ++ bounds_line r) (gap_line r) three c.in_ok-put_total-3.ensures.ok in
    err-after _ _ _ _ (sum_line r ++ makespan_line r ++ bounds_line r ++ gap_line r) end_line four c.put_line.ensures.err
