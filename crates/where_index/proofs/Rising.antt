-- Lists that rise by a number: an element put in at its place, and one taken out.
use Rattle.std.proofs.Common.{◌≡◌, ◌≢◌, ◌⊎◌, inl, inr, ℕ, ◌+◌, ◌-◌, ◌<◌, ◌≤◌, List, Contains, length, get_or, refl, sym, ap, ◌∙◌, subst, arith}
use mathlib.Core.Logic.{◌↔◌}
use Rattle.std.specs.List.{insert, remove, AllPairs}
use Rattle.std.proofs.lemmas.List.Edits.{length-insert, get_or-insert_below, get_or-insert_at, get_or-insert_above, length-remove, get_or-remove_below, get_or-remove_above}

lt_or : (a b : ℕ) → (a < b) ⊎ ((a ≡ b) ⊎ (b < a))
lt_or a b = grind arith

module _ {X : Type 0} (f : X → ℕ) where
  abbrev pub Rises : List X → Type 0
  Rises xs = AllPairs (λ a b. f a < f b) xs

  module _ (xs : List X) (at : ℕ) (y : X) (within : at ≤ length xs) where
    below : (d : X) (k : ℕ) → k < at → get_or (insert xs at y) k d ≡ get_or xs k d
    below d k h = get_or-insert_below xs at y d k h within

    above : (d : X) (k : ℕ) → at < k → get_or (insert xs at y) k d ≡ get_or xs (k - 1) d
    above d k h = subst (λ q. get_or (insert xs at y) q d ≡ get_or xs (k - 1) d) {x = k - 1 + 1} (omega arith) (get_or-insert_above xs at y d (k - 1) (omega arith) within)

    here : (d : X) (k : ℕ) → k ≡ at → get_or (insert xs at y) k d ≡ y
    here d k h = subst (λ q. get_or (insert xs at y) q d ≡ y) (sym h) (get_or-insert_at xs at y d within)

    pub contains_insert : (z : X) → Contains (insert xs at y) z ↔ (Contains xs z ⊎ (z ≡ y))
    contains_insert z =
        let longer = length-insert xs at y within in (
          (λ h. elim (lt_or h.0 at) [
            | inl lt ↦ inl (h.0, omega arith, sym (below z h.0 lt) ∙ h.2)
            | inr more ↦ elim more [
              | inl same ↦ inr (sym h.2 ∙ here z h.0 same)
              | inr gt ↦ inl (h.0 - 1, omega arith, sym (above z h.0 gt) ∙ h.2)
            ]
          ]),
          (λ h. elim h [
            | inl old ↦ elim (lt_or old.0 at) [
              | inl lt ↦ (old.0, omega arith, below z old.0 lt ∙ old.2)
              | inr more ↦ (old.0 + 1, omega arith, get_or-insert_above xs at y z old.0 (grind arith) within ∙ old.2)
            ]
            | inr is ↦ (at, omega arith, here z at refl ∙ sym is)
          ]),
        )

    pub rises_insert : Rises xs → ((k : ℕ) (d : X) → k < at → f (get_or xs k d) < f y) → ((k : ℕ) (d : X) → at ≤ k → k < length xs → f y < f (get_or xs k d)) → Rises (insert xs at y)
    rises_insert rise less more i j d lt inside =
        let longer = length-insert xs at y within in
        let b : (k : ℕ) → k < at → f (get_or (insert xs at y) k d) ≡ f (get_or xs k d) = λ k h. ap f (below d k h) in
        let e : (k : ℕ) → k ≡ at → f (get_or (insert xs at y) k d) ≡ f y = λ k h. ap f (here d k h) in
        let a : (k : ℕ) → at < k → f (get_or (insert xs at y) k d) ≡ f (get_or xs (k - 1) d) = λ k h. ap f (above d k h) in
        grind (arith, b i, e i, a i, b j, e j, a j, rise i j d, rise i (j - 1) d, rise (i - 1) (j - 1) d, less i d, more (j - 1) d)

  module _ (xs : List X) (at : ℕ) (within : at < length xs) (rise : Rises xs) where
    rest_below : (d : X) (k : ℕ) → k < at → get_or (remove xs at) k d ≡ get_or xs k d
    rest_below d k h = get_or-remove_below xs at d k h within

    rest_above : (d : X) (k : ℕ) → at ≤ k → get_or (remove xs at) k d ≡ get_or xs (k + 1) d
    rest_above d k h = get_or-remove_above xs at d k h within

    pub contains_remove : (n : ℕ) → ((d : X) → f (get_or xs at d) ≡ n) → (z : X) → Contains (remove xs at) z ↔ (Contains xs z × (f z ≢ n))
    contains_remove n has z =
        let shorter = length-remove xs at within in (
          (λ h. elim (lt_or h.0 at) [
            | inl lt ↦
                let is : get_or xs h.0 z ≡ z = sym (rest_below z h.0 lt) ∙ h.2 in
                let value = ap f is in
                ((h.0, omega arith, is), λ same. omega (arith, rise h.0 at z lt within, has z))
            | inr more ↦
                let high : at ≤ h.0 = grind arith in
                let is : get_or xs (h.0 + 1) z ≡ z = sym (rest_above z h.0 high) ∙ h.2 in
                let value = ap f is in
                ((h.0 + 1, omega arith, is), λ same. omega (arith, rise at (h.0 + 1) z (omega arith) (omega arith), has z))
          ]),
          (λ h. let old = h.0 in elim (lt_or old.0 at) [
            | inl lt ↦ (old.0, omega arith, rest_below z old.0 lt ∙ old.2)
            | inr more ↦ elim more [
              | inl same ↦ absurd (h.1 (sym (ap f old.2) ∙ (ap (λ k. f (get_or xs k z)) same ∙ has z)))
              | inr gt ↦ (old.0 - 1, omega arith, rest_above z (old.0 - 1) (omega arith) ∙ (ap (λ k. get_or xs k z) {x = old.0 - 1 + 1} (omega arith) ∙ old.2))
            ]
          ]),
        )

    pub rises_remove : Rises (remove xs at)
    rises_remove i j d lt inside =
        let shorter = length-remove xs at within in
        let b : (k : ℕ) → k < at → f (get_or (remove xs at) k d) ≡ f (get_or xs k d) = λ k h. ap f (rest_below d k h) in
        let a : (k : ℕ) → at ≤ k → f (get_or (remove xs at) k d) ≡ f (get_or xs (k + 1) d) = λ k h. ap f (rest_above d k h) in
        grind (arith, b i, a i, b j, a j, rise i j d, rise i (j + 1) d, rise (i + 1) (j + 1) d)
