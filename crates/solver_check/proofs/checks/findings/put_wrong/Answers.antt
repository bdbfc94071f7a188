use Rattle.std.proofs.Common.{sym, subst}
use Rattle.desk_report.specs.Bytes.{Puts}
use Rattle.solver_check.specs.FindingTexts.{wrong_line}
use Rattle.solver_check.specs.declared.checks.wrongs.Wrong.{Wrong}
use Rattle.solver_check.proofs.checks.findings.put_wrong.Goals as goal

pub returns-in-TooLong : goal.returns-in-TooLong
unfolding wrong_line
returns-in-TooLong g c =
    subst (λ (w : Wrong). Puts g.W.Sink.held g.W.Sink.broken c.args.sink.now c.put_cell.new.sink c.put_cell.result (wrong_line w)) (sym c.in-TooLong.is) c.put_cell.ensures

pub returns-in-OutOfMap : goal.returns-in-OutOfMap
unfolding wrong_line
returns-in-OutOfMap g c =
    subst (λ (w : Wrong). Puts g.W.Sink.held g.W.Sink.broken c.args.sink.now c.put_cell-in-OutOfMap.new.sink c.put_cell-in-OutOfMap.result (wrong_line w)) (sym c.in-OutOfMap.is) c.put_cell-in-OutOfMap.ensures

pub returns-in-NotFromStart : goal.returns-in-NotFromStart
unfolding wrong_line
returns-in-NotFromStart g c =
    subst (λ (w : Wrong). Puts g.W.Sink.held g.W.Sink.broken c.args.sink.now c.put_cells.new.sink c.put_cells.result (wrong_line w)) (sym c.in-NotFromStart.is) c.put_cells.ensures

pub returns-in-NotAStep : goal.returns-in-NotAStep
unfolding wrong_line
returns-in-NotAStep g c =
    subst (λ (w : Wrong). Puts g.W.Sink.held g.W.Sink.broken c.args.sink.now c.put_cells-in-NotAStep.new.sink c.put_cells-in-NotAStep.result (wrong_line w)) (sym c.in-NotAStep.is) c.put_cells-in-NotAStep.ensures
