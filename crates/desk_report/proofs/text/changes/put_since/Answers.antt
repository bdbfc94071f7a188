use Rattle.std.proofs.Common.{ℕ, List, [], ◌∷◌, ◌++◌}
use Rattle.std.specs.Prelude.{codes}
use Rattle.mapf_rules.specs.declared.entries.Conflict.{Conflict}
use Rattle.mapf_rules.specs.declared.visits.Visit.{Visit}
use Rattle.desk_report.specs.EntryText.{entry_line}
use Rattle.desk_report.specs.ReportText.{count_line, agent_line, visit_line, totals_text}
use Rattle.desk_report.specs.ChangesText.{name_line, changed_text}
use Rattle.desk_report.specs.declared.changed.Changes.{Changes}
use Rattle.desk_report.proofs.Fronts.{front-more, front-after, err-of, ok-after, err-after}
use Rattle.desk_report.proofs.text.changes.put_since.Goals as goal

abbrev since_part : ℕ → List ℕ
since_part since = count_line (codes "since") since

abbrev agents_part : Changes → List ℕ
agents_part changes = changed_text (codes "agents") changes.agents name_line changes.gone_agents agent_line changes.came.lines

abbrev conflicts_part : Changes → List ℕ
conflicts_part changes = changed_text (codes "conflicts") changes.conflicts entry_line changes.gone_conflicts entry_line changes.came.conflicts

abbrev visits_part : Changes → List ℕ
visits_part changes = changed_text (codes "blocked") changes.blocked visit_line changes.gone_visits visit_line changes.came.visits

abbrev totals_part : Changes → List ℕ
totals_part changes = totals_text changes.came

pub returns-in_err-put_line-clause-err : goal.returns-in_err-put_line-clause-err
returns-in_err-put_line-clause-err g c =
    let k = c.args.changes.now in
    err-of c.from_residual.result (front-more _ _ (since_part c.args.since) (agents_part k ++ (conflicts_part k ++ (visits_part k ++ totals_part k))) c.in_err-put_line.ensures.err)

pub returns-in_err-put_changed-clause-err : goal.returns-in_err-put_changed-clause-err
returns-in_err-put_changed-clause-err g c =
    let k = c.args.changes.now in
    err-of c.from_residual-in_err-put_changed.result
    (front-after _ _ _ (since_part c.args.since) (agents_part k ++ (conflicts_part k ++ (visits_part k ++ totals_part k))) c.in_ok-put_line.ensures.ok
    (front-more _ _ (agents_part k) (conflicts_part k ++ (visits_part k ++ totals_part k)) c.in_err-put_changed.ensures.err))

pub returns-in_err-put_changed-2-clause-err : goal.returns-in_err-put_changed-2-clause-err
returns-in_err-put_changed-2-clause-err g c =
    let k = c.args.changes.now in
    err-of c.from_residual-in_err-put_changed-2.result
    (front-after _ _ _ (since_part c.args.since) (agents_part k ++ (conflicts_part k ++ (visits_part k ++ totals_part k))) c.in_ok-put_line.ensures.ok
    (front-after _ _ _ (agents_part k) (conflicts_part k ++ (visits_part k ++ totals_part k)) c.in_ok-put_changed.ensures.ok
    (front-more _ _ (conflicts_part k) (visits_part k ++ totals_part k) c.in_err-put_changed-2.ensures.err)))

pub returns-in_err-put_changed-3-clause-err : goal.returns-in_err-put_changed-3-clause-err
returns-in_err-put_changed-3-clause-err g c =
    let k = c.args.changes.now in
    err-of c.from_residual-in_err-put_changed-3.result
    (front-after _ _ _ (since_part c.args.since) (agents_part k ++ (conflicts_part k ++ (visits_part k ++ totals_part k))) c.in_ok-put_line.ensures.ok
    (front-after _ _ _ (agents_part k) (conflicts_part k ++ (visits_part k ++ totals_part k)) c.in_ok-put_changed.ensures.ok
    (front-after _ _ _ (conflicts_part k) (visits_part k ++ totals_part k) c.in_ok-put_changed-2.ensures.ok
    (front-more _ _ (visits_part k) (totals_part k) c.in_err-put_changed-3.ensures.err))))

pub returns-clause-ok : goal.returns-clause-ok
returns-clause-ok g c =
    let k = c.args.changes.now in
    ok-after _ _ _ _ (since_part c.args.since) (agents_part k ++ (conflicts_part k ++ (visits_part k ++ totals_part k))) c.in_ok-put_line.ensures.ok
    (ok-after _ _ _ _ (agents_part k) (conflicts_part k ++ (visits_part k ++ totals_part k)) c.in_ok-put_changed.ensures.ok
    (ok-after _ _ _ _ (conflicts_part k) (visits_part k ++ totals_part k) c.in_ok-put_changed-2.ensures.ok
    (ok-after _ _ _ _ (visits_part k) (totals_part k) c.in_ok-put_changed-3.ensures.ok c.put_totals.ensures.ok)))

pub returns-clause-err : goal.returns-clause-err
returns-clause-err g c =
    let k = c.args.changes.now in
    err-after _ _ _ _ (since_part c.args.since) (agents_part k ++ (conflicts_part k ++ (visits_part k ++ totals_part k))) c.in_ok-put_line.ensures.ok
    (err-after _ _ _ _ (agents_part k) (conflicts_part k ++ (visits_part k ++ totals_part k)) c.in_ok-put_changed.ensures.ok
    (err-after _ _ _ _ (conflicts_part k) (visits_part k ++ totals_part k) c.in_ok-put_changed-2.ensures.ok
    (err-after _ _ _ _ (visits_part k) (totals_part k) c.in_ok-put_changed-3.ensures.ok c.put_totals.ensures.err)))
