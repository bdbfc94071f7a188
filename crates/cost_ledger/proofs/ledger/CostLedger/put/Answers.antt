use Rattle.std.proofs.Common.{refl, arith}
use Rattle.plan_table.specs.declared.plans.Row.{Row}
use Rattle.cost_ledger.proofs.Keeping.{keeps_put, visits_put, total_small, elsewhere_small, one_at_most}
use Rattle.cost_ledger.proofs.ledger.CostLedger.put.Goals as goal

pub overflow_add-self : goal.overflow_add-self
overflow_add-self c =
    let small = total_small c.self.inside.rows c.self.inside.rests.keys c.self.inside.total c.self.inside.elsewhere c.self.invariant in
    omega (arith, c.last.ensures.bound, c.from.ensures)

pub overflow_add-self-in-Ok : goal.overflow_add-self-in-Ok
overflow_add-self-in-Ok c =
    let small = elsewhere_small c.self.inside.rows c.self.inside.rests.keys c.self.inside.total c.self.inside.elsewhere c.self.invariant in
    omega (arith, c.in-Ok.ensures.away, one_at_most (record { goal = c.args.goal; plan = c.args.plan.now }))

pub invariant_of-self : goal.invariant_of-self
invariant_of-self c =
    let row : Row = record { goal = c.args.goal; plan = c.args.plan.now } in
    keeps_put _ _ _ _ _ _ _ _ c.args.agent row _ c.self.invariant (rw (← c.self.view_is) at c.requires.absent)
    (omega (arith, c.number-number.ensures.is, c.number-number.ensures.bound)) c.last.ensures.path
    c.in-Ok.ensures.row.change c.in-Ok.ensures.row.by_agent c.in-Ok.ensures.row.sums refl c.in-Ok.ensures.rests
    (omega (arith, c.from.ensures, c.last.ensures.is)) (omega (arith, c.in-Ok.ensures.away))

pub returns-in-Ok-clause-stands : goal.returns-in-Ok-clause-stands
returns-in-Ok-clause-stands c = λ stands.
    let row : Row = record { goal = c.args.goal; plan = c.args.plan.now } in
    visits_put c.args.grid.now c.self.inside.rows c.add_row.new.rows c.args.agent row c.self.inside.blocked.keys c.add_row.new.blocked.keys c.len-count.ensures.ordered
    (rw (← c.self.view_is) at c.requires.absent) c.in-Ok.ensures.row.change (rw (← c.self.view_is) at stands) c.in-Ok.ensures.blocked
