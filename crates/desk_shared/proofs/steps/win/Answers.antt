use Rattle.std.proofs.Common.{rules, refl, ap, ◌∙◌}
use Rattle.desk_shared.proofs.Turning.{wins, carries}
use Rattle.desk_shared.proofs.steps.win.Goals as goal

pub compare_exchange-requires : goal.compare_exchange-requires
compare_exchange-requires g c = (search rules, search rules, wins _ _ _ _ (ap (λ m. m.0.live) c.loop.invariant.1 ∙ c.requires.ready.1))

pub exchange-requires : goal.exchange-requires
exchange-requires g c = (search rules, carries _ _ _ _ (c.compare_exchange.ensures.2.0 (search rules)).1 refl)
