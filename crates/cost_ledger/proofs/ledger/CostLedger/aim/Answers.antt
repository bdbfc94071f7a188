use Rattle.std.proofs.Common.{refl, arith}
use Rattle.cost_ledger.specs.Kept.{ends_elsewhere}
use Rattle.cost_ledger.proofs.Keeping.{keeps_aim, visits_swap, elsewhere_small, one_at_most, row_counts}
use Rattle.cost_ledger.proofs.ledger.CostLedger.aim.Goals as goal

pub overflow_sub-self : goal.overflow_sub-self
overflow_sub-self c =
    let some = c.in-Some.ensures.some in
    omega (arith, some.2, c.self.invariant.elsewhere_is, row_counts ends_elsewhere c.self.inside.rows c.args.agent some.0 some.1.was)

pub overflow_add-self : goal.overflow_add-self
overflow_add-self c =
    let some = c.in-Some.ensures.some in
    omega (arith, some.3, one_at_most (record some.0 { goal = c.args.goal }), elsewhere_small c.self.inside.rows c.self.inside.rests.keys c.self.inside.total c.self.inside.elsewhere c.self.invariant)

pub invariant_of-self-2 : goal.invariant_of-self-2
invariant_of-self-2 c =
    let some = c.in-Some.ensures.some in
    keeps_aim c.self.inside.rows c.aim.new.self c.self.inside.rests.keys c.self.inside.rests.keys c.self.inside.total c.self.inside.elsewhere c.self.inside.total _ c.args.agent some.0 c.args.goal c.self.invariant some.1 c.aim.ensures.by_agent
    (omega (arith, some.2, some.3, c.self.invariant.elsewhere_is, row_counts ends_elsewhere c.self.inside.rows c.args.agent some.0 some.1.was))

pub returns-clause-stands : goal.returns-clause-stands
returns-clause-stands c = λ grid stands.
    let some = c.in-Some.ensures.some in
    visits_swap grid c.self.inside.rows c.aim.new.self c.args.agent some.0 (record some.0 { goal = c.args.goal }) c.self.inside.blocked.keys refl some.1.was some.1.now (rw (← c.self.view_is) at stands)
