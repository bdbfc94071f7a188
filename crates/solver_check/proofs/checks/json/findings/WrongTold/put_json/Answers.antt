use Rattle.std.proofs.Common.{sym, subst}
use Rattle.desk_report.specs.Bytes.{Puts}
use Rattle.solver_check.specs.JsonTexts.{wrong_json}
use Rattle.solver_check.specs.declared.checks.wrongs.Wrong.{Wrong}
use Rattle.solver_check.proofs.checks.json.findings.WrongTold.put_json.Goals as goal

pub returns-in-TooLong : goal.returns-in-TooLong
returns-in-TooLong g c =
    subst (λ (x : Wrong). Puts g.W.Sink.held g.W.Sink.broken c.args.sink.now c.put_cell.new.sink c.put_cell.result (wrong_json x)) (sym c.in-TooLong.is) c.put_cell.ensures
