use Rattle.std.proofs.Common.{◌≡◌, Some, take, subst}
use Rattle.std.specs.List.{slice_get}
use Rattle.plan_table.specs.Plans.{row_of}
use Rattle.live_report.specs.Prices.{Rows}
use Rattle.live_report.specs.Books.{Keep}
use Rattle.live_report.proofs.Entering.{row_of_before, row_of_more}
use Rattle.live_report.proofs.Live.{goal_inside_at}
use Rattle.live_report.proofs.books.Books.of.Goals as goal

pub loop-rank-init : goal.loop-rank-init
loop-rank-init c = record { fleet = c.new.ensures.books; prices = c.new-2.ensures c.args.scene.now.grid; lines = tt }

pub enter-requires-clause-know : goal.enter-requires-clause-know
enter-requires-clause-know c =
    let rows = c.args.scene.now.rows in
    let there : slice_get rows c.loop-rank.rank ≡ Some (c.entry_at-agent.result.0, c.entry_at-agent.result.1.now) = rw c.plans-plans.ensures.rows at c.entry_at-agent.ensures in
    record { rows = row_of (take c.loop-rank.rank rows); keep = c.loop-rank.invariant; has = row_of_before rows c.plans-plans.ensures.scene.by_agent c.loop-rank.rank c.entry_at-agent.result.0 c.entry_at-agent.result.1.now there }

pub enter-requires-clause-inside : goal.enter-requires-clause-inside
enter-requires-clause-inside c =
    let there : slice_get c.args.scene.now.rows c.loop-rank.rank ≡ Some (c.entry_at-agent.result.0, c.entry_at-agent.result.1.now) = rw c.plans-plans.ensures.rows at c.entry_at-agent.ensures in
    goal_inside_at c.args.scene.now c.plans-plans.ensures.scene c.loop-rank.rank c.entry_at-agent.result.0 c.entry_at-agent.result.1.now there

pub loop-rank-preserved : goal.loop-rank-preserved
loop-rank-preserved c =
    let rows = c.args.scene.now.rows in
    let by_agent = c.plans-plans.ensures.scene.by_agent in
    let there : slice_get rows c.loop-rank.rank ≡ Some (c.entry_at-agent.result.0, c.entry_at-agent.result.1.now) = rw c.plans-plans.ensures.rows at c.entry_at-agent.ensures in
    let none = row_of_before rows by_agent c.loop-rank.rank c.entry_at-agent.result.0 c.entry_at-agent.result.1.now there in
    subst (λ (r : Rows). Keep c.args.scene.now.mode c.args.scene.now.grid r c.in-Ok.more) (row_of_more rows by_agent c.loop-rank.rank c.entry_at-agent.result.0 c.entry_at-agent.result.1.now there) (c.in-Ok.ensures.kept (row_of (take c.loop-rank.rank rows)) c.loop-rank.invariant none)
