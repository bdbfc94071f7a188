use Rattle.std.proofs.Common.{ℕ, arith}
use Rattle.std.proofs.lemmas.List.{take_more}
use Rattle.std.proofs.lemmas.Option.{get_or_from_slice_get}
use Rattle.plan_table.specs.declared.plans.Row.{Row}
use Rattle.plan_table.proofs.Fleets.{row_here}
use Rattle.plan_table.proofs.Order.{EachOf-push}
use Rattle.live_report.specs.Lines.{IsOpenLine}
use Rattle.live_report.proofs.lines.Lines.of.Goals as goal

pub line-requires : goal.line-requires
line-requires c =
    let agent : ℕ = c.entry_at-agent.result.0 in
    let row : Row = c.entry_at-agent.result.1.now in
    c.requires agent row (row_here c.args.plans.now.rows c.count.ensures.by_agent c.loop-rank.rank agent row c.entry_at-agent.ensures).0

pub loop-rank-preserved : goal.loop-rank-preserved
loop-rank-preserved c = λ grid stand.
    let entry : ℕ × Row = (c.entry_at-agent.result.0, c.entry_at-agent.result.1.now) in
    let rows = c.args.plans.now.rows in
    let rank = c.loop-rank.rank in
    let read = get_or_from_slice_get rows rank entry entry c.entry_at-agent.ensures in
    rw (c.in_ok-push.ensures.items, take_more rows rank entry (omega arith), read)
    (EachOf-push (IsOpenLine grid) _ _ entry _ (c.loop-rank.invariant grid stand) (c.line.ensures.line grid stand))
