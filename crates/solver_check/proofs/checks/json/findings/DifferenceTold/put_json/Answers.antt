use Rattle.std.proofs.Common.{sym, subst}
use Rattle.desk_report.specs.Bytes.{Puts}
use Rattle.solver_check.specs.JsonTexts.{difference_json}
use Rattle.solver_check.specs.declared.checks.differences.Difference.{Difference}
use Rattle.solver_check.proofs.checks.json.findings.DifferenceTold.put_json.Goals as goal

pub returns-in-Agents : goal.returns-in-Agents
returns-in-Agents g c =
    subst (λ (x : Difference). Puts g.W.Sink.held g.W.Sink.broken c.args.sink.now c.put_counted-in-Agents.new.sink c.put_counted-in-Agents.result (difference_json x)) (sym c.in-Agents.is) c.put_counted-in-Agents.ensures

pub returns-in-Goals : goal.returns-in-Goals
returns-in-Goals g c =
    subst (λ (x : Difference). Puts g.W.Sink.held g.W.Sink.broken c.args.sink.now c.put_counted-in-Goals.new.sink c.put_counted-in-Goals.result (difference_json x)) (sym c.in-Goals.is) c.put_counted-in-Goals.ensures

pub returns-in-Goal : goal.returns-in-Goal
returns-in-Goal g c =
    subst (λ (x : Difference). Puts g.W.Sink.held g.W.Sink.broken c.args.sink.now c.put_listed-in-Goal.new.sink c.put_listed-in-Goal.result (difference_json x)) (sym c.in-Goal.is) c.put_listed-in-Goal.ensures
