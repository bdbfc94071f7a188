use Rattle.std.proofs.Common.{◌++◌}
use Rattle.solver_check.specs.JsonTexts.{counts_json, listed_lists, totals_json}
use Rattle.std.proofs.KnownBytes.{Appends-trans}
use Rattle.desk_report.proofs.Fronts.{front-more, front-after, err-of, ok-after, err-after}
use Rattle.solver_check.proofs.checks.json.put_report.Goals as goal

pub returns-in_err-put_counts-clause-err : goal.returns-in_err-put_counts-clause-err
returns-in_err-put_counts-clause-err g c =
    err-of c.from_residual.result (front-more _ _ ((counts_json c.args.counts) ++ (totals_json c.args.report.now)) (listed_lists c.args.quiet c.args.report.now) (front-more _ _ (counts_json c.args.counts) (totals_json c.args.report.now) c.in_err-put_counts.ensures.err))

pub returns-in_err-put_totals-clause-err : goal.returns-in_err-put_totals-clause-err
returns-in_err-put_totals-clause-err g c =
    err-of c.from_residual-in_err-put_totals.result (front-more _ _ ((counts_json c.args.counts) ++ (totals_json c.args.report.now)) (listed_lists c.args.quiet c.args.report.now) (front-after _ _ _ (counts_json c.args.counts) (totals_json c.args.report.now) c.in_ok-put_counts.ensures.ok c.in_err-put_totals.ensures.err))

pub returns-clause-ok : goal.returns-clause-ok
returns-clause-ok g c =
    ok-after _ _ _ _ ((counts_json c.args.counts) ++ (totals_json c.args.report.now)) (listed_lists c.args.quiet c.args.report.now) (Appends-trans _ _ _ (counts_json c.args.counts) (totals_json c.args.report.now) c.in_ok-put_counts.ensures.ok c.in_ok-put_totals.ensures.ok) c.put_listed.ensures.ok

pub returns-clause-err : goal.returns-clause-err
returns-clause-err g c =
    err-after _ _ _ _ ((counts_json c.args.counts) ++ (totals_json c.args.report.now)) (listed_lists c.args.quiet c.args.report.now) (Appends-trans _ _ _ (counts_json c.args.counts) (totals_json c.args.report.now) c.in_ok-put_counts.ensures.ok c.in_ok-put_totals.ensures.ok) c.put_listed.ensures.err
