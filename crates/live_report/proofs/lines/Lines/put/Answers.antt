use Rattle.live_report.proofs.Mending.{go_with, line_set, line_inserted}
use Rattle.live_report.proofs.lines.Lines.put.Goals as goal

pub returns-in-Ok : goal.returns-in-Ok
returns-in-Ok c = λ grid rows row were is.
    let found = c.in-Ok.ensures.found were.table were.by_agent (go_with grid were.table c.args.self.now were.are) in
    rw c.self.view_is (line_set grid rows c.args.self.now were c.args.line.agent c.in-Ok.at row c.args.line found is)

pub returns-in_ok-insert-in-Err : goal.returns-in_ok-insert-in-Err
returns-in_ok-insert-in-Err c = λ grid rows row were is.
    let gap = c.in-Err.ensures.absent were.table were.by_agent (go_with grid were.table c.args.self.now were.are) in
    rw (c.in_ok-insert-in-Err.ensures.items, c.self.view_is) (line_inserted grid rows c.args.self.now were c.args.line.agent c.in-Err.at row c.args.line gap is)
