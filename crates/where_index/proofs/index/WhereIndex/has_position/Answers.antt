use Rattle.std.proofs.Common.{◌≡◌, Option, ◌≤◌, ◌<◌, ◌⊎◌, None, ℕ, inl, inr, leb, IsTrue, sym, subst, arith}
use Rattle.std.proofs.lemmas.Bool.{not-true, not-false}
use Rattle.std.proofs.lemmas.Bool.Decides.{nat_tests}
use Rattle.std.specs.Option.{IsSome, option_and_then}
use Rattle.grid_cells.specs.Cell.{Point}
use Rattle.plan_table.specs.Route.{Route, position}
use Rattle.where_index.specs.Ends.{IsEndOf}
use Rattle.where_index.proofs.Positions.{has_place, no_place, unended}
use Rattle.where_index.proofs.index.WhereIndex.has_position.Goals as goal

within : (a b : ℕ) → IsTrue (leb a b) → a ≤ b
within a b h = grind (arith, nat_tests)

early_or_late : (a b : ℕ) → IsTrue (leb a b) ⊎ (b < a)
early_or_late a b = grind (arith, nat_tests)

pub returns-then-not-end : goal.returns-then-not-end
returns-then-not-end c = λ fleet has.
    let is = subst (λ e. IsEndOf e (fleet c.args.agent)) (sym c.in-Some.ensures) (has.ends c.args.agent) in
    ((λ h. has_place c.in-Some.end (fleet c.args.agent) c.args.step is (inl (not-true _ c.if-not-end.true))), (λ h. c.if-not-end.true))

pub returns-else-not-end : goal.returns-else-not-end
returns-else-not-end c = λ fleet has.
    let is = subst (λ e. IsEndOf e (fleet c.args.agent)) (sym c.in-Some.ensures) (has.ends c.args.agent) in (
      (λ h. has_place c.in-Some.end (fleet c.args.agent) c.args.step is (inr (omega (arith, within _ _ h, c.number.ensures)))),
      (λ h. elim (early_or_late c.number.result c.in-Some.end.last) [
        | inl early ↦ early
        | inr late ↦ absurd (no_place c.in-Some.end (fleet c.args.agent) c.args.step is (not-false _ c.if-not-end.false) (omega (arith, late, c.number.ensures)) h)
      ]),
    )

pub returns-in-None : goal.returns-in-None
returns-in-None c = λ fleet has.
    let gone : fleet c.args.agent ≡ None = unended (fleet c.args.agent) (subst (λ e. IsEndOf e (fleet c.args.agent)) (sym c.in-None.ensures) (has.ends c.args.agent)) in
    ((λ h. cc), (λ h. let wrong : IsSome {T = Point} None = subst (λ (o : Option Route). IsSome (option_and_then (λ r. position r c.args.step) o)) gone h in cc))
