use Rattle.std.proofs.Common.{◌+◌, ◌<◌, ◌≤◌, suc, List, Contains, inl, inr, sym, subst, arith}
use Rattle.plan_table.proofs.Order.{AllPairs-tail, Contains-cons_cases, Contains-cons_head, Contains-cons_tail, Contains-nil}
use Rattle.plan_table.specs.Route.{Fleet}
use Rattle.where_index.specs.Spots.{AreRising}
use Rattle.where_index.specs.declared.spot_sets.Spot.{Spot}
use Rattle.conflict_ledger.specs.Sight.{Sees}
use Rattle.conflict_ledger.specs.Gathering.{IsStop, AreShowing, HasSeen}
use Rattle.conflict_ledger.proofs.Gathers.{gathers_on}
use Rattle.conflict_ledger.proofs.Occupied.{seen_all, too_late}
use Rattle.conflict_ledger.proofs.gather.offer_spots.Goals as goal

pub loop-spot-preserved : goal.loop-spot-preserved
loop-spot-preserved c =
    let seen : Spot = c.in-Some.spot.now in
    let in_left : Contains c.args.spots seen = c.loop-spot.invariant.left seen (subst (λ (l : List Spot). Contains l seen) (sym c.in-Some.ensures.steps) (Contains-cons_head seen c.next.new.self)) in
    let both = λ (fleet : Fleet) (shows : Sees c.args.sight.now fleet) (is : IsStop fleet c.args.sight.now.agent c.args.stop.now) (showing : AreShowing fleet c.args.sight.now.agent c.args.stop.now.here c.args.lasting c.args.spots). gathers_on fleet _ _ _ _ _ (c.in_ok-offer_ahead.ensures.gathers fleet shows is (showing seen in_left)) (c.in_ok-offer_here.ensures.gathers fleet shows is (showing seen in_left)) in record {
      left = λ s h. c.loop-spot.invariant.left s (subst (λ (l : List Spot). Contains l s) (sym c.in-Some.ensures.steps) (Contains-cons_tail seen c.next.new.self s h));
      rising = λ rising. AllPairs-tail (λ (a b : Spot). a.time ≤ b.time) seen c.next.new.self (subst AreRising c.in-Some.ensures.steps (c.loop-spot.invariant.rising rising));
      gathers = λ fleet shows is showing. gathers_on fleet _ _ _ _ _ (c.loop-spot.invariant.gathers fleet shows is showing) (both fleet shows is showing);
      has = λ fleet shows is showing s h. elim (c.loop-spot.invariant.has fleet shows is showing s h) [
        | inr has ↦ inr (λ place of shown entry own at two apart met. (both fleet shows is showing).keeps entry (has place of shown entry own at two apart met))
        | inl before ↦ elim (Contains-cons_cases seen c.next.new.self s (subst (λ (l : List Spot). Contains l s) c.in-Some.ensures.steps before)) [
          | inr later ↦ inl later
          | inl this ↦ inr (subst (λ (v : Spot). HasSeen fleet c.args.sight.now.agent c.args.stop.now c.args.lasting c.offer_here.new.entries.items v) this
              (seen_all fleet _ c.args.stop.now c.args.lasting seen _ _ (c.in_ok-offer_ahead.ensures.has fleet shows is (showing seen in_left)) (c.in_ok-offer_here.ensures.gathers fleet shows is (showing seen in_left)).keeps (c.in_ok-offer_here.ensures.beside fleet shows is (showing seen in_left)) (c.in_ok-offer_here.ensures.behind fleet shows is (showing seen in_left))))
        ]
      ];
    }

-- what is left comes after the stop
pub returns-then-spot-stop-clause-has : goal.returns-then-spot-stop-clause-has
returns-then-spot-stop-clause-has c fleet shows is showing rising s h = elim (c.loop-spot.invariant.has fleet shows is showing s h) [
  | inr has ↦ has
  | inl left ↦
      let seen : Spot = c.in-Some.spot.now in
      let rest = subst AreRising c.in-Some.ensures.steps (c.loop-spot.invariant.rising rising) in
      too_late fleet _ c.args.stop.now c.args.lasting s _ c.requires.0 (elim (Contains-cons_cases seen c.next.new.self s (subst (λ (l : List Spot). Contains l s) c.in-Some.ensures.steps left)) [
        | inl this ↦ subst (λ (v : Spot). c.args.stop.now.time + 1 < v.time) this c.if-spot-stop.true
        | inr (k, within, at) ↦
            let after : seen.time ≤ s.time = subst (λ (v : Spot). seen.time ≤ v.time) at (rest 0 (suc k) s (omega arith) (omega (arith, within))) in
            omega (arith, after, c.if-spot-stop.true)
      ])
]

pub returns-clause-has : goal.returns-clause-has
returns-clause-has c fleet shows is showing rising s h = elim (c.loop-spot.invariant.has fleet shows is showing s h) [
  | inl left ↦ absurd (Contains-nil s (subst (λ (l : List Spot). Contains l s) c.in-None.ensures.steps.0 left))
  | inr has ↦ has
]
