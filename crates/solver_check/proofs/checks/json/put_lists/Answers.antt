use Rattle.std.proofs.Common.{◌++◌}
use Rattle.std.specs.Prelude.{codes}
use Rattle.solver_check.specs.JsonTexts.{agent_json, entry_json, list_json, visit_json}
use Rattle.std.proofs.KnownBytes.{Appends-trans}
use Rattle.desk_report.proofs.Fronts.{front-more, front-after, err-of, ok-after, err-after}
use Rattle.solver_check.proofs.checks.json.put_lists.Goals as goal

pub returns-in_err-put_list-clause-err : goal.returns-in_err-put_list-clause-err
returns-in_err-put_list-clause-err g c =
    err-of c.from_residual.result (front-more _ _ ((list_json (codes ",\"agents\":[") agent_json c.args.report.now.lines) ++ (list_json (codes ",\"entries\":[") entry_json c.args.report.now.conflicts)) (list_json (codes ",\"visits\":[") visit_json c.args.report.now.visits) (front-more _ _ (list_json (codes ",\"agents\":[") agent_json c.args.report.now.lines) (list_json (codes ",\"entries\":[") entry_json c.args.report.now.conflicts) (rw c.items-lines.ensures at c.in_err-put_list.ensures.err)))

pub returns-in_err-put_list-2-clause-err : goal.returns-in_err-put_list-2-clause-err
returns-in_err-put_list-2-clause-err g c =
    err-of c.from_residual-in_err-put_list-2.result (front-more _ _ ((list_json (codes ",\"agents\":[") agent_json c.args.report.now.lines) ++ (list_json (codes ",\"entries\":[") entry_json c.args.report.now.conflicts)) (list_json (codes ",\"visits\":[") visit_json c.args.report.now.visits) (front-after _ _ _ (list_json (codes ",\"agents\":[") agent_json c.args.report.now.lines) (list_json (codes ",\"entries\":[") entry_json c.args.report.now.conflicts) (rw c.items-lines.ensures at c.in_ok-put_list.ensures.ok) (rw c.items-entries.ensures at c.in_err-put_list-2.ensures.err)))

pub returns-clause-ok : goal.returns-clause-ok
returns-clause-ok g c =
    ok-after _ _ _ _ ((list_json (codes ",\"agents\":[") agent_json c.args.report.now.lines) ++ (list_json (codes ",\"entries\":[") entry_json c.args.report.now.conflicts)) (list_json (codes ",\"visits\":[") visit_json c.args.report.now.visits) (Appends-trans _ _ _ (list_json (codes ",\"agents\":[") agent_json c.args.report.now.lines) (list_json (codes ",\"entries\":[") entry_json c.args.report.now.conflicts) (rw c.items-lines.ensures at c.in_ok-put_list.ensures.ok) (rw c.items-entries.ensures at c.in_ok-put_list-2.ensures.ok)) (rw c.items-visits.ensures at c.put_list-3.ensures.ok)

pub returns-clause-err : goal.returns-clause-err
returns-clause-err g c =
    err-after _ _ _ _ ((list_json (codes ",\"agents\":[") agent_json c.args.report.now.lines) ++ (list_json (codes ",\"entries\":[") entry_json c.args.report.now.conflicts)) (list_json (codes ",\"visits\":[") visit_json c.args.report.now.visits) (Appends-trans _ _ _ (list_json (codes ",\"agents\":[") agent_json c.args.report.now.lines) (list_json (codes ",\"entries\":[") entry_json c.args.report.now.conflicts) (rw c.items-lines.ensures at c.in_ok-put_list.ensures.ok) (rw c.items-entries.ensures at c.in_ok-put_list-2.ensures.ok)) (rw c.items-visits.ensures at c.put_list-3.ensures.err)
