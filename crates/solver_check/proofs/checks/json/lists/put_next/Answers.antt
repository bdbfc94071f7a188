use Rattle.std.specs.Prelude.{codes}
use Rattle.desk_report.proofs.Fronts.{front-more, err-of, ok-after, err-after}
use Rattle.solver_check.proofs.checks.json.lists.put_next.Goals as goal

pub returns-in_err-put_all-clause-err : goal.returns-in_err-put_all-clause-err
returns-in_err-put_all-clause-err g c =
    err-of c.from_residual.result (front-more _ _ (codes ",") (g.T.Told.json c.args.item.now) c.in_err-put_all.ensures.err)

pub returns-clause-ok : goal.returns-clause-ok
returns-clause-ok g c =
    ok-after _ _ _ _ (codes ",") (g.T.Told.json c.args.item.now) c.in_ok-put_all.ensures.ok c.put_json.ensures.ok

pub returns-clause-err : goal.returns-clause-err
returns-clause-err g c =
    err-after _ _ _ _ (codes ",") (g.T.Told.json c.args.item.now) c.in_ok-put_all.ensures.ok c.put_json.ensures.err
