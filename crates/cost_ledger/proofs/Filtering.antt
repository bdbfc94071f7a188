-- What a filter keeps of a list.
use Rattle.std.proofs.Common.{◌≡◌, inl, inr, List, [], ◌∷◌, Contains, sym, ap, ◌∙◌, subst, Bool, true, false, cond}
use mathlib.Core.Logic.{◌↔◌}
use Rattle.std.specs.List.{filter}
use Rattle.std.proofs.lemmas.Bool.{cases_Bool}
use Rattle.plan_table.proofs.Order.{Contains-nil, Contains-cons_head, Contains-cons_tail, Contains-cons_cases}

pub filter_keeps : {X : Type 0} (p : X → Bool) (xs : List X) (y : X) → Contains (filter p xs) y ↔ (Contains xs y × (p y ≡ true))
filter_keeps p [] y = ((λ h. absurd (Contains-nil y h)), (λ h. h.0))
filter_keeps p (x ∷ xs) y =
    let rest = filter_keeps p xs y in
    elim (cases_Bool (p x)) [
      | inl passes ↦
          let is : filter p (x ∷ xs) ≡ x ∷ filter p xs = ap (λ b. cond b (x ∷ filter p xs) (filter p xs)) passes in
          subst (λ l. Contains l y ↔ (Contains (x ∷ xs) y × (p y ≡ true))) (sym is) (
            (λ h. elim (Contains-cons_cases x (filter p xs) y h) [
              | inl same ↦ (subst (λ v. Contains (x ∷ xs) v) same (Contains-cons_head x xs), subst (λ v. p v ≡ true) same passes)
              | inr more ↦ (Contains-cons_tail x xs y (rest.0 more).0, (rest.0 more).1)
            ]),
            (λ h. elim (Contains-cons_cases x xs y h.0) [
              | inl same ↦ subst (λ v. Contains (x ∷ filter p xs) v) same (Contains-cons_head x (filter p xs))
              | inr more ↦ Contains-cons_tail x (filter p xs) y (rest.1 (more, h.1))
            ]),
          )
      | inr fails ↦
          let is : filter p (x ∷ xs) ≡ filter p xs = ap (λ b. cond b (x ∷ filter p xs) (filter p xs)) fails in
          subst (λ l. Contains l y ↔ (Contains (x ∷ xs) y × (p y ≡ true))) (sym is) (
            (λ h. (Contains-cons_tail x xs y (rest.0 h).0, (rest.0 h).1)),
            (λ h. elim (Contains-cons_cases x xs y h.0) [
              | inl same ↦ let wrong : true ≡ false = sym h.1 ∙ (ap p (sym same) ∙ fails) in absurd (cc)
              | inr more ↦ rest.1 (more, h.1)
            ]),
          )
    ]
