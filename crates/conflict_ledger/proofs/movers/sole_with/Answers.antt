use Rattle.std.proofs.Common.{inl, inr, refl, sym, ◌∙◌}
use Rattle.conflict_ledger.proofs.movers.sole_with.Goals as goal

pub returns-in-Some-clause-found : goal.returns-in-Some-clause-found
returns-in-Some-clause-found c mover goal is only = absurd (c.in-Some.ensures.some.0 (only c.in-Some.field-0.0 c.in-Some.field-0.1 (inr c.in-Some.ensures.some) ∙ sym (only c.args.agent c.args.to (inl (refl, refl)))))
