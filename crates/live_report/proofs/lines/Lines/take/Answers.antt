use Rattle.live_report.proofs.Mending.{go_with, line_removed, line_absent}
use Rattle.live_report.proofs.lines.Lines.take.Goals as goal

pub returns-in-Ok : goal.returns-in-Ok
returns-in-Ok c = λ grid rows were.
    let found = c.in-Ok.ensures.found were.table were.by_agent (go_with grid were.table c.args.self.now were.are) in
    rw (c.remove.ensures.items, c.self.view_is) (line_removed grid rows c.args.self.now were c.args.agent c.in-Ok.at found)

pub returns-in_default : goal.returns-in_default
returns-in_default c = λ grid rows were.
    let gap = c.in_default.ensures.absent were.table were.by_agent (go_with grid were.table c.args.self.now were.are) in
    line_absent grid rows c.args.self.now were c.args.agent c.in_default.field-0 gap
