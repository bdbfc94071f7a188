use Rattle.std.proofs.Common.{[], ◌∷◌, Contains, inl, inr, subst}
use Rattle.where_index.specs.Spots.{spot}
use Rattle.where_index.specs.Crowds.{Moves, IsCrowd}
use Rattle.plan_table.proofs.Order.{Contains-nil, Contains-cons_head, Contains-cons_cases}
use Rattle.where_index.proofs.traffic.Traffic.movers.Goals as goal

pub returns-in-Some-clause-all : goal.returns-in-Some-clause-all
returns-in-Some-clause-all c = λ f has m. subst (λ o. IsCrowd o (Moves f c.args.cell c.args.time)) c.in-Some.ensures.some.0 (has.crowds c.args.cell c.args.time) m

pub returns-in-None-clause-all : goal.returns-in-None-clause-all
returns-in-None-clause-all c = λ f has m. (
  (λ h. absurd (Contains-nil m h)),
  (λ h. absurd (c.in-None.ensures.none m ((has.stands c.args.cell (spot c.args.time m.agent m.to)).1 h.0, h.1))),
)

pub returns-in-Some-mover-clause-all : goal.returns-in-Some-mover-clause-all
returns-in-Some-mover-clause-all c = λ f has m.
    let step = c.in-Some-mover.step.now in
    let told = c.in-Some-mover.ensures.some in
    let one : Moves f c.args.cell c.args.time step = ((has.stands c.args.cell (spot c.args.time step.agent step.to)).0 told.0, told.1) in
    let few = subst (λ o. IsCrowd o (Moves f c.args.cell c.args.time)) c.in_default.ensures.none (has.crowds c.args.cell c.args.time) in
    rw c.from_ref.ensures.value (
      (λ h. elim (Contains-cons_cases step [] m h) [ inl is ↦ subst (λ q. Moves f c.args.cell c.args.time q) is one | inr more ↦ absurd (Contains-nil m more) ]),
      (λ h. subst (λ q. Contains (step ∷ []) q) (few step m one h) (Contains-cons_head step [])),
    )
