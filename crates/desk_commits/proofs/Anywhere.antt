-- What holds of some element of a list that grows.
use Rattle.std.proofs.Common.{zero, suc, ◌⊎◌, inl, inr, List, [], ◌∷◌, ◌++◌, refl, ◌∙◌, arith}
use Rattle.std.specs.List.{Any}
use Rattle.std.proofs.lemmas.List.{get_or_append_left, length-append}

pub Any-nil : {X : Type 0} (P : X → Type 0) → Any P [] → ⊥
Any-nil P any = absurd (omega (arith, any.2))

pub Any-here : {X : Type 0} (P : X → Type 0) (x : X) (xs : List X) → P x → Any P (x ∷ xs)
Any-here P x xs p = (0, x, omega arith, refl, p)

pub Any-there : {X : Type 0} (P : X → Type 0) (x : X) (xs : List X) → Any P xs → Any P (x ∷ xs)
Any-there P x xs any = (suc any.0, any.1, omega (arith, any.2), any.3, any.4)

-- it is the first, or a later one
pub Any-cons : {X : Type 0} (P : X → Type 0) (x : X) (xs : List X) → Any P (x ∷ xs) → P x ⊎ Any P xs
Any-cons P x xs (zero, y, within, is, p) = inl (rw is p)
Any-cons P x xs (suc k, y, within, is, p) = inr (k, y, omega (arith, within), is, p)

-- it is the last, or an earlier one
pub Any-last : {X : Type 0} (P : X → Type 0) (xs : List X) (y : X) → Any P (xs ++ y ∷ []) → Any P xs ⊎ P y
Any-last P [] y any = elim (Any-cons P y [] any) [ inl p ↦ inr p | inr none ↦ absurd (Any-nil P none) ]
Any-last P (x ∷ xs) y any =
    elim (Any-cons P x (xs ++ y ∷ []) any) [
      | inl p ↦ inl (Any-here P x xs p)
      | inr later ↦ elim (Any-last P xs y later) [ inl a ↦ inl (Any-there P x xs a) | inr p ↦ inr p ]
    ]

pub Any-append : {X : Type 0} (P : X → Type 0) (xs ys : List X) → Any P xs → Any P (xs ++ ys)
Any-append P xs ys any = (any.0, any.1, omega (arith, any.2, length-append xs ys), get_or_append_left xs ys any.1 any.0 any.2 ∙ any.3, any.4)
