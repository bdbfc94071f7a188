use Rattle.std.proofs.Common.{◌≡◌, ◌≤◌, List, Contains, sym, ap, ◌∙◌, subst, arith, inl, inr}
use Rattle.std.proofs.lemmas.Bool.{not-true, not-false}
use Rattle.where_index.specs.declared.spot_sets.Spot.{Spot}
use Rattle.where_index.specs.Spots.{spot, AreRising}
use Rattle.plan_table.proofs.Order.{AllPairs-tail, Contains-nil, Contains-cons_head, Contains-cons_tail, Contains-cons_cases}
use Rattle.where_index.specs.ByCell.{cell_eq, spots_at}
use Rattle.where_index.proofs.ByCell.{cell_exact, apart_from}
use Rattle.where_index.proofs.SpotOrder.{first_least}
use Rattle.where_index.proofs.spots.Spots.mover.Goals as goal

pub loop-spot-init : goal.loop-spot-init
loop-spot-init c =
    let all = c.into_iter-spot-iterator.ensures.into_iter_gives in
    record {
      only = λ s h. (c.from-spot-items.ensures.all s).0 (subst (λ (l : List Spot). Contains l s) all h);
      rising = subst AreRising (sym all) c.from-spot-items.ensures.rising;
      left = λ step h. subst (λ (l : List Spot). Contains l (spot c.args.time step.agent step.to)) (sym all) ((c.from-spot-items.ensures.all (spot c.args.time step.agent step.to)).1 (h.0, omega arith));
    }

pub returns-then-ne-clause-some : goal.returns-then-ne-clause-some
returns-then-ne-clause-some c =
    let s = c.in-Some.spot.now in
    let is = c.loop-spot.invariant.only s (subst (λ (l : List Spot). Contains l s) (sym c.in-Some.ensures.steps) (Contains-cons_head s c.next.new.self)) in
    let times : s.time ≡ c.args.time = c.if-spot-time.false in
    let one : s ≡ spot c.args.time s.step.agent s.step.to = λ i. record { time = times i; step = s.step } in
    (subst (λ q. Contains (spots_at c.args.self.now c.args.cell) q) one is.0, apart_from s.step.to c.args.cell (not-true (cell_eq s.step.to c.args.cell) (sym c.ne.ensures ∙ c.if-ne.true)))

pub loop-spot-preserved : goal.loop-spot-preserved
loop-spot-preserved c =
    let s = c.in-Some.spot.now in
    record {
      only = λ q h. c.loop-spot.invariant.only q (subst (λ (l : List Spot). Contains l q) (sym c.in-Some.ensures.steps) (Contains-cons_tail s c.next.new.self q h));
      rising = AllPairs-tail (λ (a b : Spot). a.time ≤ b.time) s c.next.new.self (subst AreRising c.in-Some.ensures.steps c.loop-spot.invariant.rising);
      left = λ step h.
          let q = spot c.args.time step.agent step.to in
          elim (Contains-cons_cases s c.next.new.self q (subst (λ (l : List Spot). Contains l q) c.in-Some.ensures.steps (c.loop-spot.invariant.left step h))) [
            | inl is ↦ absurd (h.1 (sym (cell_exact s.step.to c.args.cell (not-false (cell_eq s.step.to c.args.cell) (sym c.ne.ensures ∙ c.if-ne.false))) ∙ ap (λ (v : Spot). v.step.to) is))
            | inr later ↦ later
          ];
    }

pub returns-clause-none : goal.returns-clause-none
returns-clause-none c = λ step h. Contains-nil _ (subst (λ (l : List Spot). Contains l (spot c.args.time step.agent step.to)) c.in-None.ensures.steps.0 (c.loop-spot.invariant.left step h))

pub returns-then-spot-time-clause-none : goal.returns-then-spot-time-clause-none
returns-then-spot-time-clause-none c = λ step h.
    let s = c.in-Some.spot.now in
    let v = spot c.args.time step.agent step.to in
    let is = c.loop-spot.invariant.only s (subst (λ (l : List Spot). Contains l s) (sym c.in-Some.ensures.steps) (Contains-cons_head s c.next.new.self)) in
    let after : s.time ≤ c.args.time = first_least s c.next.new.self (subst AreRising c.in-Some.ensures.steps c.loop-spot.invariant.rising) v (subst (λ (l : List Spot). Contains l v) c.in-Some.ensures.steps (c.loop-spot.invariant.left step h)) in
    absurd (c.if-spot-time.true (omega (arith, after, is.1)))
