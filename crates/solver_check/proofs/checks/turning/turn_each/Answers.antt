use Rattle.std.proofs.Common.{sym}
use Rattle.std.proofs.lemmas.List.Edits.{map_over_more}
use Rattle.solver_check.proofs.checks.turning.turn_each.Goals as goal

pub loop-item-preserved : goal.loop-item-preserved
loop-item-preserved g c =
    rw c.turn.ensures
    (rw (sym c.item-item.is)
    (map_over_more g.T.Turning.turned c.args.items.now.items c.loop-item.item-items c.loop-item.item-index c.item-item.result
    (rw c.deref_mut-item-items.ensures.value at c.loop-item-test.true) c.loop-item.invariant c.item-item.is))
