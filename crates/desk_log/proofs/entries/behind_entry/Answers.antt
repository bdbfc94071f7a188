use Rattle.std.proofs.Common.{arith}
use Rattle.desk_log.proofs.Whole.{entry_is}
use Rattle.desk_log.proofs.entries.behind_entry.Goals as goal

pub returns : goal.returns
returns c =
    let watches = c.in_ok-others.ensures in
    let edits = c.in_ok-rest.ensures in
    entry_is _ _ _ _ _ _ _ _ _ c.in_ok-planner.planner c.in_ok-base.base c.in_ok-watches.watches c.in_ok-edits.edits watches.0 edits.0
    (record {
      planner_most = omega (arith, c.in_ok-planner.ensures.0, c.from.ensures);
      base_most = omega (arith, c.in_ok-base.ensures.0);
      watches_most = omega (arith, c.in_ok-watches.ensures.0);
      edits_most = omega (arith, c.in_ok-edits.ensures.0);
    })
    watches.1 edits.1 watches.2 edits.2 c.in_ok-name.ensures c.in_ok-planner.ensures.1 c.in_ok-base.ensures.1 c.in_ok-watches.ensures.1 c.in_ok-edits.ensures.1
    c.in_ok-lines.ensures watches.3 edits.3
