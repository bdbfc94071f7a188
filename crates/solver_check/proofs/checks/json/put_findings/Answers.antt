use Rattle.std.proofs.Common.{◌++◌}
use Rattle.std.specs.Prelude.{codes}
use Rattle.solver_check.specs.JsonTexts.{difference_json, list_json, wrong_json}
use Rattle.std.proofs.KnownBytes.{Appends-trans}
use Rattle.desk_report.proofs.Fronts.{front-more, front-after, err-of, ok-after, err-after}
use Rattle.solver_check.proofs.checks.json.put_findings.Goals as goal

pub returns-in_err-put_list-clause-err : goal.returns-in_err-put_list-clause-err
returns-in_err-put_list-clause-err g c =
    err-of c.from_residual.result (front-more _ _ ((list_json (codes ",\"wrong\":[") wrong_json c.args.wrongs.now) ++ (list_json (codes ",\"differs\":[") difference_json c.args.differences.now)) (codes "}\n") (front-more _ _ (list_json (codes ",\"wrong\":[") wrong_json c.args.wrongs.now) (list_json (codes ",\"differs\":[") difference_json c.args.differences.now) c.in_err-put_list.ensures.err))

pub returns-in_err-put_list-2-clause-err : goal.returns-in_err-put_list-2-clause-err
returns-in_err-put_list-2-clause-err g c =
    err-of c.from_residual-in_err-put_list-2.result (front-more _ _ ((list_json (codes ",\"wrong\":[") wrong_json c.args.wrongs.now) ++ (list_json (codes ",\"differs\":[") difference_json c.args.differences.now)) (codes "}\n") (front-after _ _ _ (list_json (codes ",\"wrong\":[") wrong_json c.args.wrongs.now) (list_json (codes ",\"differs\":[") difference_json c.args.differences.now) c.in_ok-put_list.ensures.ok c.in_err-put_list-2.ensures.err))

pub returns-clause-ok : goal.returns-clause-ok
returns-clause-ok g c =
    ok-after _ _ _ _ ((list_json (codes ",\"wrong\":[") wrong_json c.args.wrongs.now) ++ (list_json (codes ",\"differs\":[") difference_json c.args.differences.now)) (codes "}\n") (Appends-trans _ _ _ (list_json (codes ",\"wrong\":[") wrong_json c.args.wrongs.now) (list_json (codes ",\"differs\":[") difference_json c.args.differences.now) c.in_ok-put_list.ensures.ok c.in_ok-put_list-2.ensures.ok) c.put_all.ensures.ok

pub returns-clause-err : goal.returns-clause-err
returns-clause-err g c =
    err-after _ _ _ _ ((list_json (codes ",\"wrong\":[") wrong_json c.args.wrongs.now) ++ (list_json (codes ",\"differs\":[") difference_json c.args.differences.now)) (codes "}\n") (Appends-trans _ _ _ (list_json (codes ",\"wrong\":[") wrong_json c.args.wrongs.now) (list_json (codes ",\"differs\":[") difference_json c.args.differences.now) c.in_ok-put_list.ensures.ok c.in_ok-put_list-2.ensures.ok) c.put_all.ensures.err
