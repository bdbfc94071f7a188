use Rattle.std.proofs.Common.{refl, inl, inr}
use Rattle.std.proofs.lemmas.Result.{err_from_is_err_and}
use Rattle.shared_runs.proofs.Drilled.{comes_to, loses}
use Rattle.shared_runs.proofs.drilling.drilled.Goals as goal

pub returns-clause-drilled : goal.returns-clause-drilled
returns-clause-drilled g c =
    let served = rw c.in-Ok-ended.is at c.serve_scripts-first.ensures.served in
    comes_to _ _ _ _ _ c.args.scripts.now _ c.in-Ok.scene c.in_ok-shared.shared _ c.serve_scripts-first.result.0 _ _ c.in-Ok-last_report.audited c.is_same-same.result c.in-Ok.ensures.opened refl c.in_ok-shared.ensures.first c.serve_scripts-first.ensures.owned c.serve_scripts-first.ensures.gathered served c.in_ok-reading.ensures.ended c.in-Ok-last_report.ensures c.is_same-same.ensures

pub returns-in_err-shared-clause-refused : goal.returns-in_err-shared-clause-refused
returns-in_err-shared-clause-refused g c =
    let p = err_from_is_err_and c.from_residual.result c.from_residual.ensures.1 in
    rw (p.1, p.2) (inr (record { scene = c.in-Ok.scene; opens = c.in-Ok.ensures.opened; why = inl c.in_err-shared.ensures.refused }))

pub returns-in_err-reading-clause-refused : goal.returns-in_err-reading-clause-refused
returns-in_err-reading-clause-refused g c =
    let p = err_from_is_err_and c.from_residual-in_err-reading.result c.from_residual-in_err-reading.ensures.1 in
    let served = rw c.in-Ok-ended.is at c.serve_scripts-first.ensures.served in
    rw (p.1, p.2) (loses _ _ _ _ _ c.args.scripts.now _ c.in-Ok.scene c.in_ok-shared.shared _ c.serve_scripts-first.result.0 _ c.in-Ok.ensures.opened c.in_ok-shared.ensures.first served c.in_err-reading.ensures.refused)
