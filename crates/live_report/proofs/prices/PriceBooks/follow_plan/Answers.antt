use Rattle.live_report.proofs.Fleets.{books_planned}
use Rattle.live_report.proofs.prices.PriceBooks.follow_plan.Goals as goal

pub returns-clause-kept : goal.returns-clause-kept
returns-clause-kept c = λ fleet are at.
    let costs = c.in-Ok.ensures in
    books_planned c.args.grid.now fleet _ c.args.agent (record { goal = c.args.goal; plan = c.args.plan.now }) c.in-Ok.costs
    (rw (← c.self.view_is) at are) at costs.row costs.by_agent costs.stands
