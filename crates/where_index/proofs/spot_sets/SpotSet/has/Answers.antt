use Rattle.std.proofs.Common.{List, Contains, sym, subst}
use Rattle.plan_table.proofs.Order.{Contains-nil, Contains-cons_head}
use Rattle.where_index.specs.declared.spot_sets.Spot.{Spot}
use Rattle.where_index.specs.Spots.{spot}
use Rattle.where_index.proofs.SpotOrder.{found_from, there, among, first_there}
use Rattle.where_index.proofs.spot_sets.SpotSet.has.Goals as goal

pub returns-in-None : goal.returns-in-None
returns-in-None c =
    let is = found_from c.args.time c.args.agent c.args.self.now _ (rw (c.spot_of-low.ensures, c.least_cell.ensures, c.self.view_is) at (c.range.ensures.between tt)) in (
      (λ h. absurd (cc)),
      (λ w. absurd (Contains-nil (spot c.args.time c.args.agent w.0) (subst (λ (l : List Spot). Contains l (spot c.args.time c.args.agent w.0)) c.in-None.ensures.steps.0 (there c.args.time c.args.agent c.args.self.now _ is w.0 w.1)))),
    )

pub returns-in-Some : goal.returns-in-Some
returns-in-Some c =
    let is = found_from c.args.time c.args.agent c.args.self.now _ (rw (c.spot_of-low.ensures, c.least_cell.ensures, c.self.view_is) at (c.range.ensures.between tt)) in
    let s = c.in-Some.first.now in
    let steps = c.in-Some.ensures.steps in
    let kept = among c.args.time c.args.agent c.args.self.now _ is s (subst (λ (l : List Spot). Contains l s) (sym steps) (Contains-cons_head s c.next.new.self)) in (
      (λ h. (s.step.to, subst (λ q. Contains c.args.self.now q) (c.is_there.ensures.0 h) kept)),
      (λ w.
          let at = first_there c.args.time c.args.agent c.args.self.now _ is (rw (← c.self.view_is) c.range.ensures.ordered) s c.next.new.self steps w in
          c.is_there.ensures.1 (λ i. record { time = at.0 i; step = record { agent = at.1 i; to = s.step.to } })),
    )
