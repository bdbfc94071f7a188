use Rattle.std.proofs.Common.{◌≡◌, ℕ, Option, Some, None, ap, ◌∙◌, arith}
use Rattle.std.specs.Option.{SomeIff}
use Rattle.journal_text.proofs.lines.planner_of.Goals as goal

some-iff : (o : Option ℕ) (P : Type 0) (v : ℕ) → SomeIff o P v → P → o ≡ Some v
some-iff (Some x) P v is here = ap (λ (n : ℕ). let o : Option ℕ = Some n in o) is.1
some-iff None P v is here = absurd (is here)

pub returns-in_err-small_of : goal.returns-in_err-small_of
returns-in_err-small_of c = λ planner most same.
    let read = c.small_of.ensures planner (omega arith) same in
    let none = c.in_err-small_of.was in
    absurd (cc)

pub returns : goal.returns
returns c = λ planner most same.
    let read = c.small_of.ensures planner (omega arith) same in
    let some = c.in_ok-small_of.was in
    let one : c.in_ok-small_of.field-0 ≡ planner = cc in
    some-iff c.new.result _ _ c.new.ensures (omega (arith, one, most)) ∙ ap (λ (n : ℕ). let o : Option ℕ = Some n in o) one
