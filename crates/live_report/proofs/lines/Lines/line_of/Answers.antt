use Rattle.std.proofs.Common.{◌≡◌, ℕ, get_or, Some, sym, ap, subst, ◌∙◌}
use Rattle.plan_table.specs.declared.plans.Row.{Row}
use Rattle.plan_table.proofs.Rows.{row_of_gap}
use Rattle.live_report.proofs.Mending.{go_with, line_found}
use Rattle.live_report.proofs.lines.Lines.line_of.Goals as goal

pub returns-in-Ok : goal.returns-in-Ok
returns-in-Ok c = λ grid rows were.
    let found = c.in-Ok.ensures.found were.table were.by_agent (go_with grid were.table c.args.self.now were.are) in
    line_found grid rows c.args.self.now were c.args.agent c.in-Ok.at found c.index.result.now (c.index.ensures ∙ ap (λ l. get_or l c.in-Ok.at c.index.result.now) c.self.view_is)

pub returns-in-Err : goal.returns-in-Err
returns-in-Err c = λ grid rows were.
    let gap = c.in-Err.ensures.absent were.table were.by_agent (go_with grid were.table c.args.self.now were.are) in
    sym (were.same c.args.agent) ∙ row_of_gap were.table c.args.agent c.in-Err.field-0 gap
