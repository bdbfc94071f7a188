use Rattle.live_report.proofs.AimOrder.{between_all}
use Rattle.live_report.proofs.aims.Aims.has_goal.Goals as goal

pub returns : goal.returns
returns c =
    let all = between_all c.args.self.now c.args.goal (rw (← c.self.view_is) c.self.invariant) in
    ((λ h. all.0 (c.has_between.ensures.0 h)), (λ h. c.has_between.ensures.1 (all.1 h)))
