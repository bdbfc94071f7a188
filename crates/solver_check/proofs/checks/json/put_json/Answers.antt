use Rattle.solver_check.specs.JsonTexts.{content_json, head_json}
use Rattle.desk_report.proofs.Fronts.{front-more, err-of, ok-after, err-after}
use Rattle.solver_check.proofs.checks.json.put_json.Goals as goal

pub returns-in_err-put_head-clause-err : goal.returns-in_err-put_head-clause-err
returns-in_err-put_head-clause-err g c =
    err-of c.from_residual.result (front-more _ _ (head_json c.args.kinds c.args.verdict.now) (content_json c.args.quiet c.args.counts c.args.verdict.now) c.in_err-put_head.ensures.err)

pub returns-clause-ok : goal.returns-clause-ok
returns-clause-ok g c =
    ok-after _ _ _ _ (head_json c.args.kinds c.args.verdict.now) (content_json c.args.quiet c.args.counts c.args.verdict.now) c.in_ok-put_head.ensures.ok c.put_content.ensures.ok

pub returns-clause-err : goal.returns-clause-err
returns-clause-err g c =
    err-after _ _ _ _ (head_json c.args.kinds c.args.verdict.now) (content_json c.args.quiet c.args.counts c.args.verdict.now) c.in_ok-put_head.ensures.ok c.put_content.ensures.err
