use Rattle.std.proofs.Common.{subst, sym}
use Rattle.goal_fields.specs.Held.{StandFor}
use Rattle.live_report.specs.Prices.{Prices}
use Rattle.live_report.proofs.Fleets.{books_put}
use Rattle.live_report.proofs.prices.PriceBooks.put.Goals as goal

pub add-requires-clause-stand : goal.add-requires-clause-stand
add-requires-clause-stand c = subst (λ (books : Prices). StandFor c.args.grid.now books.fields) (sym c.self.view_is) c.requires.stand

pub returns-clause-kept : goal.returns-clause-kept
returns-clause-kept c = λ fleet are.
    let costs = c.in-Ok.ensures in
    let goals = c.in-Ok-add.ensures in
    books_put c.args.grid.now fleet _ c.args.agent (record { goal = c.args.goal; plan = c.args.plan.now }) c.in-Ok.costs c.in-Ok-add.goals.aims c.in-Ok-add.goals.fields
    (rw (← c.self.view_is) at are) (rw (← c.self.view_is) at c.requires.absent) costs.row costs.by_agent costs.stands goals.aims goals.stand goals.held
