use Rattle.std.proofs.Common.{refl}
use Rattle.desk_log.proofs.heads.is_torn_head.Goals as goal

pub returns-in-Some : goal.returns-in-Some
returns-in-Some c = (λ yes. record { lost = c.in-Some._lost.now; shorter = c.if-text-head.false; is = c.in-Some.ensures }, λ torn. refl)

pub returns-in-None : goal.returns-in-None
returns-in-None c = (λ no. cc, λ torn. absurd (c.in-None.ensures torn.lost torn.is))
