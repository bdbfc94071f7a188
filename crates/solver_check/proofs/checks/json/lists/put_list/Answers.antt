use Rattle.std.proofs.Common.{◌++◌}
use Rattle.std.specs.Prelude.{codes}
use Rattle.solver_check.specs.JsonTexts.{items_json}
use Rattle.std.proofs.KnownBytes.{Appends-trans}
use Rattle.desk_report.proofs.Fronts.{front-more, front-after, err-of, ok-after, err-after}
use Rattle.solver_check.proofs.checks.json.lists.put_list.Goals as goal

pub returns-in_err-put_all-clause-err : goal.returns-in_err-put_all-clause-err
returns-in_err-put_all-clause-err g c =
    err-of c.from_residual.result (front-more _ _ (c.args.front.now ++ (items_json g.T.Told.json c.args.items.now)) (codes "]") (front-more _ _ c.args.front.now (items_json g.T.Told.json c.args.items.now) c.in_err-put_all.ensures.err))

pub returns-in_err-put_items-clause-err : goal.returns-in_err-put_items-clause-err
returns-in_err-put_items-clause-err g c =
    err-of c.from_residual-in_err-put_items.result (front-more _ _ (c.args.front.now ++ (items_json g.T.Told.json c.args.items.now)) (codes "]") (front-after _ _ _ c.args.front.now (items_json g.T.Told.json c.args.items.now) c.in_ok-put_all.ensures.ok c.in_err-put_items.ensures.err))

pub returns-clause-ok : goal.returns-clause-ok
returns-clause-ok g c =
    ok-after _ _ _ _ (c.args.front.now ++ (items_json g.T.Told.json c.args.items.now)) (codes "]") (Appends-trans _ _ _ c.args.front.now (items_json g.T.Told.json c.args.items.now) c.in_ok-put_all.ensures.ok c.in_ok-put_items.ensures.ok) c.put_all-2.ensures.ok

pub returns-clause-err : goal.returns-clause-err
returns-clause-err g c =
    err-after _ _ _ _ (c.args.front.now ++ (items_json g.T.Told.json c.args.items.now)) (codes "]") (Appends-trans _ _ _ c.args.front.now (items_json g.T.Told.json c.args.items.now) c.in_ok-put_all.ensures.ok c.in_ok-put_items.ensures.ok) c.put_all-2.ensures.err
