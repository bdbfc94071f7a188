use Rattle.std.proofs.Common.{append_assoc, append-nil}
use Rattle.mapf_rules.proofs.Orders.{entries_ascend}
use Rattle.mapf_rules.proofs.Copies.{clone_is}
use Rattle.conflict_ledger.proofs.ledger.ConflictLedger.listed.Goals as goal

pub returns : goal.returns
returns c fleet has =
    let none = c.in-None.ensures.steps in
    let all = rw (none.0, append-nil) at c.loop-entry.invariant in
    rw (c.new.ensures, all) (record { ascending = rw (← c.self.view_is) (entries_ascend c.self.inside.kept.keys c.iter-entry-items.ensures.ordered); exact = has })

pub loop-entry-preserved : goal.loop-entry-preserved
loop-entry-preserved c =
    let same = clone_is _ _ c.in_ok-clone.ensures.cases in
    rw (c.in_ok-push.ensures.items, same, append_assoc, ← c.in-Some.ensures.steps) c.loop-entry.invariant
