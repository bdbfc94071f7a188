use Rattle.std.proofs.Common.{◌≡◌, ◌-◌, Some, refl, sym, arith}
use Rattle.plan_table.specs.Plans.{row_of}
use Rattle.plan_table.specs.declared.plans.Row.{Row}
use Rattle.cost_ledger.specs.Kept.{Keeps, ends_elsewhere, last_of_row}
use Rattle.plan_table.proofs.Sets.{set_loses}
use Rattle.cost_ledger.proofs.KeyOrders.{rest_total, rest_exact}
use Rattle.cost_ledger.proofs.Keeping.{keeps_put, keeps_take, total_small, elsewhere_small, one_at_most}
use Rattle.cost_ledger.proofs.Replanning.{same_below, visits_replanned}
use Rattle.cost_ledger.proofs.ledger.CostLedger.follow_plan.Goals as goal

pub unblock-requires : goal.unblock-requires
unblock-requires c = omega (arith, c.same_front-since.ensures.one_within)

pub add_row-requires-clause-within : goal.add_row-requires-clause-within
add_row-requires-clause-within c = omega (arith, c.same_front-since.ensures.other_within)

pub overflow_add-self : goal.overflow_add-self
overflow_add-self c =
    let small = total_small c.self.inside.rows c.self.inside.rests.keys c.self.inside.total c.self.inside.elsewhere c.self.invariant in
    omega (arith, c.last.ensures.bound, c.from-in-Ok.ensures)

pub overflow_add-self-in-Ok : goal.overflow_add-self-in-Ok
overflow_add-self-in-Ok c =
    let small = elsewhere_small c.self.inside.rows c.self.inside.rests.keys c.self.inside.total c.self.inside.elsewhere c.self.invariant in
    omega (arith, c.in-Ok.ensures.away, one_at_most (record { goal = c.in-Some.old.goal; plan = c.args.plan.now }))

pub invariant_of-self-in-Ok : goal.invariant_of-self-in-Ok
invariant_of-self-in-Ok c =
    let row : Row = record { goal = c.in-Some.old.goal; plan = c.args.plan.now } in
    let live : row_of c.self.inside.rows c.args.agent ≡ Some c.in-Some.old = sym c.in-Some.ensures.value in
    let sums = c.in-Some.ensures.sums in
    let before : Keeps c.remove.new.self c.remove-2.new.self.keys (c.self.inside.total - c.from.result) (c.self.inside.elsewhere - c.elsewhere.result) =
    keeps_take _ _ _ _ _ _ _ _ c.args.agent c.in-Some.old c.last-last.result c.self.invariant live c.remove.ensures.gone c.remove.ensures.by_agent sums
    c.last-last.ensures.is (set_loses rest_total rest_exact _ _ _ c.remove-2.ensures.updates)
    (omega (arith, c.from.ensures, c.last-last.ensures.is, c.self.invariant.total_is, sums last_of_row))
    (omega (arith, c.elsewhere.ensures, c.self.invariant.elsewhere_is, sums ends_elsewhere)) in
    keeps_put _ _ _ _ _ _ _ _ c.args.agent row _ before c.remove.ensures.gone.this_agent (c.self.invariant.lawful c.args.agent c.in-Some.old live).0
    c.last.ensures.path c.in-Ok.ensures.row.change c.in-Ok.ensures.row.by_agent c.in-Ok.ensures.row.sums
    refl c.in-Ok.ensures.rests (omega (arith, c.from-in-Ok.ensures, c.last.ensures.is)) (omega (arith, c.in-Ok.ensures.away))

pub returns-in-Ok-clause-stands : goal.returns-in-Ok-clause-stands
returns-in-Ok-clause-stands c = λ stands.
    let row : Row = record { goal = c.in-Some.old.goal; plan = c.args.plan.now } in
    let live : row_of c.self.inside.rows c.args.agent ≡ Some c.in-Some.old = sym c.in-Some.ensures.value in
    visits_replanned c.args.grid.now c.self.inside.rows c.remove.new.self c.add_row.new.rows c.args.agent c.in-Some.old row live c.remove.ensures.gone c.in-Ok.ensures.row.change c.same_front-since.result (same_below _ _ _ c.same_front-since.ensures)
    c.self.inside.blocked.keys c.unblock.new.blocked.keys c.add_row.new.blocked.keys (rw (← c.self.view_is) at stands) c.unblock.ensures c.in-Ok.ensures.blocked c.len-count.ensures.ordered

pub returns-in-Ok-clause-by_agent : goal.returns-in-Ok-clause-by_agent
returns-in-Ok-clause-by_agent c = c.in-Ok.ensures.row.by_agent

pub overflow_sub-self : goal.overflow_sub-self
overflow_sub-self c = omega (arith, c.from.ensures, c.last-last.ensures.is, c.self.invariant.total_is, c.in-Some.ensures.sums last_of_row)

pub overflow_sub-self-in-Ok : goal.overflow_sub-self-in-Ok
overflow_sub-self-in-Ok c = omega (arith, c.elsewhere.ensures, c.self.invariant.elsewhere_is, c.in-Some.ensures.sums ends_elsewhere)
