use Rattle.std.proofs.Common.{◌++◌}
use Rattle.std.specs.List.{flat_map}
use Rattle.desk_report.proofs.Fronts.{front-more, front-after, err-of, err-after}
use Rattle.std.proofs.KnownBytes.{Appends-trans}
use Rattle.session_protocol.specs.Replies.{version_line}
use Rattle.solver_check.specs.CheckTexts.{body_text}
use Rattle.solver_check.specs.FindingTexts.{difference_line}
use Rattle.solver_check.proofs.checks.texts.put_judged.Goals as goal

pub returns-in_err-put_line-clause-err : goal.returns-in_err-put_line-clause-err
returns-in_err-put_line-clause-err g c =
    let body = body_text c.args.quiet c.args.report.now in
    err-of c.from_residual.result
    (front-more _ _ (version_line 0 ++ body) (flat_map difference_line c.args.differences.now) (front-more _ _ (version_line 0) body c.in_err-put_line.ensures.err))

pub returns-in_err-put_body-clause-err : goal.returns-in_err-put_body-clause-err
returns-in_err-put_body-clause-err g c =
    let body = body_text c.args.quiet c.args.report.now in
    err-of c.from_residual-in_err-put_body.result
    (front-more _ _ (version_line 0 ++ body) (flat_map difference_line c.args.differences.now)
    (front-after _ _ _ (version_line 0) body c.in_ok-put_line.ensures.ok c.in_err-put_body.ensures.err))

pub returns-clause-err : goal.returns-clause-err
returns-clause-err g c =
    let body = body_text c.args.quiet c.args.report.now in
    let done = Appends-trans _ _ _ (version_line 0) body c.in_ok-put_line.ensures.ok c.in_ok-put_body.ensures.ok in
    err-after _ _ _ _ (version_line 0 ++ body) (flat_map difference_line c.args.differences.now) done c.put_differences.ensures.err
