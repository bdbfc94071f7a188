use Rattle.std.proofs.Common.{ℕ, Option, arith}
use Rattle.std.proofs.lemmas.Option.{get_or_from_slice_get}
use Rattle.std.proofs.lemmas.List.{take_more}
use Rattle.plan_table.specs.declared.plans.Row.{Row}
use Rattle.plan_table.proofs.Order.{EachOf-push}
use Rattle.mapf_rules.specs.Costs.{IsCost}
use Rattle.mapf_rules.proofs.totals.costs.Goals as goal

pub loop-rank-preserved : goal.loop-rank-preserved
loop-rank-preserved c =
    let entry : ℕ × Row = (c.entry_at-entry.result.0, c.entry_at-entry.result.1.now) in
    let read = get_or_from_slice_get c.args.plans.now.rows c.loop-rank.rank entry entry c.entry_at-entry.ensures in
    rw (c.in_ok-push.ensures.items, take_more c.args.plans.now.rows c.loop-rank.rank entry (omega arith), read)
    (EachOf-push (λ (e : ℕ × Row) (cost : Option ℕ). IsCost e.1 cost) _ _ entry _ c.loop-rank.invariant c.cost.ensures)
