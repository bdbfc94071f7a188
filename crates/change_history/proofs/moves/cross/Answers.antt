use Rattle.std.proofs.Common.{inl, inr}
use Rattle.plan_table.proofs.Sets.{set_gains, set_loses}
use Rattle.change_history.proofs.Telling.{set_held, set_absent}
use Rattle.change_history.proofs.Apart.{new_in, kept_in}
use Rattle.change_history.proofs.moves.cross.Goals as goal

pub returns-in_ok-insert : goal.returns-in_ok-insert
returns-in_ok-insert g c =
    let total = g.met.T.Ord.total in
    let exact = c.told_apart.ensures in record {
      leaves = set_loses total exact _ _ _ c.remove.ensures.updates;
      goes_in = new_in _ _ _ _ (set_gains total exact _ _ _ c.in_ok-insert.ensures.updates) (set_absent total exact _ _ _ c.remove.ensures.test c.if-not-remove.true);
    }

pub returns-else-not-remove : goal.returns-else-not-remove
returns-else-not-remove g c =
    let total = g.met.T.Ord.total in
    let exact = c.told_apart.ensures in record {
      leaves = set_loses total exact _ _ _ c.remove.ensures.updates;
      goes_in = kept_in _ _ _ (set_held total exact _ _ _ c.remove.ensures.test c.if-not-remove.false);
    }
