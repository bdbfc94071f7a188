use Rattle.std.proofs.Common.{◌≡◌, arith}
use Rattle.plan_table.specs.Route.{tracks_of}
use Rattle.desk_audit.specs.Parts.{AreEntriesOf}
use Rattle.desk_audit.proofs.Finding.{ranked_more, ranked_none, some_agent}
use Rattle.desk_audit.proofs.entries.entries_of.Goals as goal

pub loop-rank-init : goal.loop-rank-init
loop-rank-init c = rw c.new-entries.ensures.items (ranked_none (tracks_of c.args.mode c.args.plans.now.rows) c.args.plans.now.rows c.args.from)

pub loop-rank-preserved : goal.loop-rank-preserved
loop-rank-preserved c =
    let found = some_agent c.args.plans.now.rows c.loop-rank.rank (omega (arith, c.requires.within)) in
    ranked_more (tracks_of c.args.mode c.args.plans.now.rows) c.args.plans.now.rows c.args.from c.loop-rank.rank found.0 c.loop-rank.entries.items c.add_agent.new.entries.items (omega arith) found.1 (c.in_ok-add_agent.ensures found.0 found.1) c.loop-rank.invariant

pub returns-clause-exact : goal.returns-clause-exact
returns-clause-exact c =
    let end : c.loop-rank.rank ≡ c.args.to = omega arith in
    let so_far : AreEntriesOf (tracks_of c.args.mode c.args.plans.now.rows) c.args.plans.now.rows c.args.from c.args.to c.loop-rank.entries.items = rw (← end) c.loop-rank.invariant in
    rw c.into_items.ensures (λ entry. (
      λ h. (so_far entry).0 ((c.sorted.ensures.exact entry).0 h),
      λ is. (c.sorted.ensures.exact entry).1 ((so_far entry).1 is),
    ))
