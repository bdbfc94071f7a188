use Rattle.std.proofs.Common.{◌++◌}
use Rattle.std.specs.Prelude.{codes, decimal}
use Rattle.solver_check.specs.JsonTexts.{cycle_front, items_json}
use Rattle.std.proofs.KnownBytes.{Appends-trans}
use Rattle.desk_report.proofs.Fronts.{front-more, front-after, err-of, ok-after, err-after}
use Rattle.solver_check.proofs.checks.json.entries.put_cycle.Goals as goal

pub returns-in_err-put_time-clause-err : goal.returns-in_err-put_time-clause-err
returns-in_err-put_time-clause-err g c =
    err-of c.from_residual.result (front-more _ _ ((cycle_front c.args.time) ++ (items_json decimal c.args.ring.now)) (codes "],\"cells\":[]}") (front-more _ _ (cycle_front c.args.time) (items_json decimal c.args.ring.now) c.in_err-put_time.ensures.err))

pub returns-in_err-put_items-clause-err : goal.returns-in_err-put_items-clause-err
returns-in_err-put_items-clause-err g c =
    err-of c.from_residual-in_err-put_items.result (front-more _ _ ((cycle_front c.args.time) ++ (items_json decimal c.args.ring.now)) (codes "],\"cells\":[]}") (front-after _ _ _ (cycle_front c.args.time) (items_json decimal c.args.ring.now) c.in_ok-put_time.ensures.ok c.in_err-put_items.ensures.err))

pub returns-clause-ok : goal.returns-clause-ok
returns-clause-ok g c =
    ok-after _ _ _ _ ((cycle_front c.args.time) ++ (items_json decimal c.args.ring.now)) (codes "],\"cells\":[]}") (Appends-trans _ _ _ (cycle_front c.args.time) (items_json decimal c.args.ring.now) c.in_ok-put_time.ensures.ok c.in_ok-put_items.ensures.ok) c.put_all.ensures.ok

pub returns-clause-err : goal.returns-clause-err
returns-clause-err g c =
    err-after _ _ _ _ ((cycle_front c.args.time) ++ (items_json decimal c.args.ring.now)) (codes "],\"cells\":[]}") (Appends-trans _ _ _ (cycle_front c.args.time) (items_json decimal c.args.ring.now) c.in_ok-put_time.ensures.ok c.in_ok-put_items.ensures.ok) c.put_all.ensures.err
