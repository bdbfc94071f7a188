use Rattle.std.proofs.Common.{◌≤◌, List, Contains, sym, subst, arith}
use Rattle.plan_table.proofs.Order.{AllPairs-tail}
use Rattle.where_index.specs.declared.spot_sets.Spot.{Spot}
use Rattle.where_index.specs.Shown.{IsBy}
use Rattle.where_index.specs.Spots.{AreRising}
use Rattle.plan_table.proofs.Sets.{push_iff}
use Rattle.where_index.proofs.SpotOrder.{first_least}
use Rattle.where_index.proofs.Gathered.{gathers_none, gathers_more, gathers_all, none_left}
use Rattle.where_index.proofs.gathering.gather_agents.Goals as goal

pub loop-spot-init : goal.loop-spot-init
loop-spot-init c =
    let all = c.into_iter-spot-iterator.ensures.into_iter_gives in
    record { rising = subst AreRising (sym all); gathers = gathers_none (IsBy c.args.time) c.args.found.now.items c.args.spots _ all }

pub loop-spot-preserved : goal.loop-spot-preserved
loop-spot-preserved c =
    let s = c.in-Some.spot.now in
    record {
      rising = λ rising. AllPairs-tail (λ (a b : Spot). a.time ≤ b.time) s c.next.new.self (subst AreRising c.in-Some.ensures.steps (c.loop-spot.invariant.rising rising));
      gathers = gathers_more (IsBy c.args.time) _ _ _ c.args.spots _ _ s s.step.agent c.in-Some.ensures.steps (λ x. ((λ h. h.0), (λ h. (h, omega arith)))) c.loop-spot.invariant.gathers
          (λ a. rw c.in_ok-push.ensures.ok (push_iff c.loop-spot.found.items s.step.agent a));
    }

pub returns-then-spot-time : goal.returns-then-spot-time
returns-then-spot-time c = λ rising.
    let steps = c.in-Some.ensures.steps in
    let rises = subst AreRising steps (c.loop-spot.invariant.rising rising) in
    gathers_all (IsBy c.args.time) _ _ c.args.spots _
    (λ x w. omega (arith, c.if-spot-time.true, w.2.1, first_least _ _ rises w.0 (subst (λ (l : List Spot). Contains l w.0) steps w.1))) c.loop-spot.invariant.gathers

pub returns : goal.returns
returns c = λ rising. gathers_all (IsBy c.args.time) _ _ c.args.spots _ (none_left (IsBy c.args.time) _ c.in-None.ensures.steps.0) c.loop-spot.invariant.gathers
