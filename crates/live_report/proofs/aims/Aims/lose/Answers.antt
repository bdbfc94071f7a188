use Rattle.plan_table.proofs.Sets.{set_loses}
use Rattle.live_report.proofs.AimOrder.{aim_total, aim_exact}
use Rattle.live_report.proofs.aims.Aims.lose.Goals as goal

pub returns : goal.returns
returns c = rw (← c.self.view_is) (set_loses aim_total aim_exact _ _ _ c.remove.ensures.updates)

pub invariant_of-self : goal.invariant_of-self
invariant_of-self c = λ a h. c.self.invariant a ((set_loses aim_total aim_exact _ _ _ c.remove.ensures.updates a).0 h).0
