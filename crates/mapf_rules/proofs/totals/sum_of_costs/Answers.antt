use Rattle.std.proofs.Common.{ℕ, Option, ap, length, List, arith}
use Rattle.plan_table.proofs.Order.{EachOf-length}
use Rattle.plan_table.specs.declared.plans.Row.{Row}
use Rattle.mapf_rules.specs.Costs.{IsCost}
use Rattle.mapf_rules.proofs.totals.sum_of_costs.Goals as goal

pub sum_of-requires : goal.sum_of-requires
sum_of-requires c =
    let long = EachOf-length (λ (entry : ℕ × Row) (cost : Option ℕ). IsCost entry.1 cost) c.args.plans.now.rows c.in_ok-costs.costs.items c.in_ok-costs.ensures in
    let same = ap (λ (l : List (Option ℕ)). length l) c.deref.ensures.value in
    omega (arith, c.count-count.ensures.is, c.count-count.ensures.few)
