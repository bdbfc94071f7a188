use Rattle.plan_table.proofs.Sets.{set_loses}
use Rattle.where_index.proofs.SpotOrder.{spot_total, spot_exact}
use Rattle.where_index.proofs.spot_sets.SpotSet.lose.Goals as goal

pub returns-clause-loses : goal.returns-clause-loses
returns-clause-loses c = rw (← c.self.view_is) (set_loses spot_total spot_exact _ _ _ c.remove.ensures.updates)
