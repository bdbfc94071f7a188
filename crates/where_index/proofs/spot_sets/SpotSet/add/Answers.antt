use Rattle.plan_table.proofs.Sets.{set_gains}
use Rattle.where_index.proofs.SpotOrder.{spot_total, spot_exact}
use Rattle.where_index.proofs.spot_sets.SpotSet.add.Goals as goal

pub returns-clause-gains : goal.returns-clause-gains
returns-clause-gains c = rw (← c.self.view_is) (set_gains spot_total spot_exact _ _ _ c.in_ok-insert.ensures.updates)
