use Rattle.std.proofs.KnownBytes.{Appends-trans}
use Rattle.desk_report.proofs.Fronts.{front-more, front-after, err-of, ok-after, err-after}
use Rattle.std.proofs.Common.{ℕ, List, ◌++◌}
use Rattle.std.specs.Prelude.{codes}
use Rattle.desk_report.specs.ReportText.{report_text}
use Rattle.desk_pages.specs.Pages.{kind_names}
use Rattle.desk_pages.proofs.pages.put_report_block.Goals as goal

abbrev opening : List ℕ
opening = codes "<script type='text/plain' id='report' data-solves='"

abbrev middle : List ℕ
middle = codes "'>"

abbrev closing : List ℕ
closing = codes "</script>\n"

pub returns-in_err-put_all-clause-err : goal.returns-in_err-put_all-clause-err
returns-in_err-put_all-clause-err g c =
    let kinds : List ℕ = kind_names c.args.kinds in
    let report : List ℕ = report_text c.args.report.now in
    err-of c.from_residual.result
    (front-more _ _ (opening ++ kinds ++ middle ++ report) closing (front-more _ _ (opening ++ kinds ++ middle) report (front-more _ _ (opening ++ kinds) middle (front-more _ _ opening kinds c.in_err-put_all.ensures.err))))

pub returns-in_err-put_kinds-clause-err : goal.returns-in_err-put_kinds-clause-err
returns-in_err-put_kinds-clause-err g c = err-of c.from_residual-in_err-put_kinds.result (front-more _ _ _ _ (front-more _ _ _ _ (front-more _ _ _ _ (front-after _ _ _ _ _ c.in_ok-put_all.ensures.ok c.in_err-put_kinds.ensures.err))))

pub returns-in_err-put_all-2-clause-err : goal.returns-in_err-put_all-2-clause-err
returns-in_err-put_all-2-clause-err g c = err-of c.from_residual-in_err-put_all-2.result (front-more _ _ _ _ (front-more _ _ _ _ (front-after _ _ _ _ _ (Appends-trans _ _ _ _ _ c.in_ok-put_all.ensures.ok c.in_ok-put_kinds.ensures.ok) c.in_err-put_all-2.ensures.err)))

pub returns-in_err-write_report-clause-err : goal.returns-in_err-write_report-clause-err
returns-in_err-write_report-clause-err g c = err-of c.from_residual-in_err-write_report.result (front-more _ _ _ _ (front-after _ _ _ _ _ (Appends-trans _ _ _ _ _ (Appends-trans _ _ _ _ _ c.in_ok-put_all.ensures.ok c.in_ok-put_kinds.ensures.ok) c.in_ok-put_all-2.ensures.ok) c.in_err-write_report.ensures.err))

pub returns-clause-ok : goal.returns-clause-ok
returns-clause-ok g c = ok-after _ _ _ _ _ _ (Appends-trans _ _ _ _ _ (Appends-trans _ _ _ _ _ (Appends-trans _ _ _ _ _ c.in_ok-put_all.ensures.ok c.in_ok-put_kinds.ensures.ok) c.in_ok-put_all-2.ensures.ok) c.in_ok-write_report.ensures.ok) c.put_all-3.ensures.ok

pub returns-clause-err : goal.returns-clause-err
returns-clause-err g c = err-after _ _ _ _ _ _ (Appends-trans _ _ _ _ _ (Appends-trans _ _ _ _ _ (Appends-trans _ _ _ _ _ c.in_ok-put_all.ensures.ok c.in_ok-put_kinds.ensures.ok) c.in_ok-put_all-2.ensures.ok) c.in_ok-write_report.ensures.ok) c.put_all-3.ensures.err
