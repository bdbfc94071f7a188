use Rattle.std.proofs.Common.{refl, ◌≡◌, Option, ℕ, ◌≤◌, Some, None, Bool, false, leb, IsTrue, sym, subst, arith}
use Rattle.std.proofs.lemmas.Bool.Decides.{nat_tests}
use Rattle.std.specs.Option.{option_and_then}
use Rattle.plan_table.specs.Route.{Route, position}
use Rattle.where_index.specs.Ends.{IsEndOf}
use Rattle.where_index.proofs.Positions.{is_there, is_rest, is_standing, unended, stands_show, tails_show}
use Rattle.where_index.proofs.index.WhereIndex.is_at.Goals as goal

not_both : (b : Bool) → b ≡ false → IsTrue b → ⊥
not_both b e h = cc

at_least : (a b : ℕ) → IsTrue (leb a b) → a ≤ b
at_least a b h = grind (arith, nat_tests)

pub returns-then-end-time : goal.returns-then-end-time
returns-then-end-time c = λ fleet has.
    let records = rw (← c.self.view_is) at has in
    let is = subst (λ e. IsEndOf e (fleet c.args.agent)) (sym c.in-Some.ensures) (has.ends c.args.agent) in
    let standing = rw c.number-time.ensures at c.has.ensures in (
      (λ h. is_there c.self.inside.traffic.stands c.self.inside.traffic.tails fleet c.args.cell c.args.agent c.args.step c.in-Some.end (stands_show _ fleet records.traffic.stands) (tails_show _ fleet records.tails) is (omega (arith, c.if-end-time.true, c.number-time.ensures)) (c.has-then-end-time.ensures.0 h)),
      (λ h. c.has-then-end-time.ensures.1 (is_rest c.self.inside.traffic.stands c.self.inside.traffic.tails fleet c.args.cell c.args.agent c.args.step c.in-Some.end (stands_show _ fleet records.traffic.stands) (tails_show _ fleet records.tails) is (λ there. not_both _ c.if-has.false (standing.1 there)) h).1),
    )

pub returns-else-end-time : goal.returns-else-end-time
returns-else-end-time c = λ fleet has.
    let records = rw (← c.self.view_is) at has in
    let is = subst (λ e. IsEndOf e (fleet c.args.agent)) (sym c.in-Some.ensures) (has.ends c.args.agent) in
    let standing = rw c.number-time.ensures at c.has.ensures in (
      (λ h. absurd (omega (arith, at_least _ _ h, c.if-end-time.false))),
      (λ h. absurd (omega (arith, (is_rest c.self.inside.traffic.stands c.self.inside.traffic.tails fleet c.args.cell c.args.agent c.args.step c.in-Some.end (stands_show _ fleet records.traffic.stands) (tails_show _ fleet records.tails) is (λ there. not_both _ c.if-has.false (standing.1 there)) h).0, c.if-end-time.false, c.number-time.ensures))),
    )

pub returns-in-None : goal.returns-in-None
returns-in-None c = λ fleet has.
    let gone : fleet c.args.agent ≡ None = unended (fleet c.args.agent) (subst (λ e. IsEndOf e (fleet c.args.agent)) (sym c.in-None.ensures) (has.ends c.args.agent)) in
    ((λ h. absurd (cc)), (λ h. let wrong : None ≡ Some c.args.cell = subst (λ (o : Option Route). option_and_then (λ r. position r c.args.step) o ≡ Some c.args.cell) gone h in absurd (cc)))

pub returns-then-has : goal.returns-then-has
returns-then-has c = λ fleet has.
    let records = rw (← c.self.view_is) at has in
    let standing = rw c.number-time.ensures at c.has.ensures in
    ((λ h. is_standing c.self.inside.traffic.stands fleet c.args.cell c.args.agent c.args.step (stands_show _ fleet records.traffic.stands) (standing.0 c.if-has.true)), (λ h. refl))
