use Rattle.std.proofs.KnownBytes.{Appends-trans}
use Rattle.desk_report.proofs.Fronts.{front-more, front-after, err-of, ok-after, err-after}
use Rattle.std.proofs.Common.{ℕ, List, ◌++◌}
use Rattle.std.specs.Prelude.{codes}
use Rattle.desk_pages.specs.Pages.{escaped}
use Rattle.desk_pages.proofs.pages.put_front.Goals as goal

abbrev opening : List ℕ
opening = codes "<!doctype html>\n<html lang='en'>\n<head>\n<meta charset='utf-8'>\n<title>"

abbrev closing : List ℕ
closing = codes "</title>\n"

pub returns-in_err-put_all-clause-err : goal.returns-in_err-put_all-clause-err
returns-in_err-put_all-clause-err g c =
    let title : List ℕ = escaped c.args.page.now.title.now in
    err-of c.from_residual.result
    (front-more _ _ (opening ++ title ++ closing) c.args.page.now.looks.now (front-more _ _ (opening ++ title) closing (front-more _ _ opening title c.in_err-put_all.ensures.err)))

pub returns-in_err-put_escaped-clause-err : goal.returns-in_err-put_escaped-clause-err
returns-in_err-put_escaped-clause-err g c = err-of c.from_residual-in_err-put_escaped.result (front-more _ _ _ _ (front-more _ _ _ _ (front-after _ _ _ _ _ c.in_ok-put_all.ensures.ok c.in_err-put_escaped.ensures.err)))

pub returns-in_err-put_all-2-clause-err : goal.returns-in_err-put_all-2-clause-err
returns-in_err-put_all-2-clause-err g c = err-of c.from_residual-in_err-put_all-2.result (front-more _ _ _ _ (front-after _ _ _ _ _ (Appends-trans _ _ _ _ _ c.in_ok-put_all.ensures.ok c.in_ok-put_escaped.ensures.ok) c.in_err-put_all-2.ensures.err))

pub returns-clause-ok : goal.returns-clause-ok
returns-clause-ok g c = ok-after _ _ _ _ _ _ (Appends-trans _ _ _ _ _ (Appends-trans _ _ _ _ _ c.in_ok-put_all.ensures.ok c.in_ok-put_escaped.ensures.ok) c.in_ok-put_all-2.ensures.ok) c.put_all-3.ensures.ok

pub returns-clause-err : goal.returns-clause-err
returns-clause-err g c = err-after _ _ _ _ _ _ (Appends-trans _ _ _ _ _ (Appends-trans _ _ _ _ _ c.in_ok-put_all.ensures.ok c.in_ok-put_escaped.ensures.ok) c.in_ok-put_all-2.ensures.ok) c.put_all-3.ensures.err
