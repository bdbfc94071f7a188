-- Records without repetitions: those of one kind that tell two routes apart, listed time by time.
use Rattle.std.proofs.Common.{◌≡◌, ◌≢◌, ◌⊎◌, inl, inr, ℕ, zero, suc, ◌+◌, ◌<◌, List, [], ◌∷◌, ◌++◌, length, Contains, Option, Some, None, Bool, true, false, cond, refl, sym, ap, ◌∙◌, subst, arith}
use mathlib.Core.Logic.{◌↔◌}
use Rattle.std.specs.List.{AllPairs}
use Rattle.std.proofs.lemmas.List.{length-append}
use Rattle.std.proofs.lemmas.List.Elements.{Contains-append_left, Contains-append_right, Contains-append_cases, Contains-get_or}
use Rattle.std.proofs.lemmas.List.Kept.{AllPairs-cons}
use Rattle.plan_table.proofs.Order.{AllPairs-head, AllPairs-tail, Contains-nil, Contains-cons_head, Contains-cons_tail, Contains-cons_cases}
use Rattle.where_index.specs.Records.{changes_below}
use Rattle.where_index.specs.Counted.{Record}

-- ---- lists without repetitions
abbrev pub Once : List Record → Type 0
Once records = AllPairs (λ a b. a ≢ b) records

once_more : (r : Record) (records : List Record) → ((q : Record) → Contains records q → r ≢ q) → Once records → Once (r ∷ records)
once_more r records apart once = AllPairs-cons (λ (a b : Record). a ≢ b) r records (λ k d h. apart _ (Contains-get_or records k d h)) once

once_none : Once []
once_none i j d lt within = absurd (omega arith)

pub once_both : (xs ys : List Record) → Once xs → Once ys → ((a b : Record) → Contains xs a → Contains ys b → a ≢ b) → Once (xs ++ ys)
once_both [] ys once also apart = also
once_both (x ∷ xs) ys once also apart =
    once_more x (xs ++ ys)
    (λ q h. elim (Contains-append_cases xs ys q h) [
      | inl first ↦ AllPairs-head (λ (a b : Record). a ≢ b) x xs once q first
      | inr later ↦ apart x q (Contains-cons_head x xs) later
    ])
    (once_both xs ys (AllPairs-tail (λ (a b : Record). a ≢ b) x xs once) also (λ a b h g. apart a b (Contains-cons_tail x xs a h) g))

-- exactly one of the two is the value
abbrev pub OneIs : {X : Type 0} → Option X → Option X → X → Type 0
OneIs o n v = ((o ≡ Some v) × (n ≡ Some v → ⊥)) ⊎ ((n ≡ Some v) × (o ≡ Some v → ⊥))

-- ---- the records of one kind
module _ {X : Type 0} (mk : ℕ → X → Record) (times : (t s : ℕ) (v w : X) → mk t v ≡ mk s w → t ≡ s) (values : (t s : ℕ) (v w : X) → mk t v ≡ mk s w → v ≡ w)
    (same : X → X → Bool) (one : (a b : X) → same a b ≡ true → a ≡ b) (two : (a : X) → same a a ≡ true) where
  pub only : ℕ → Option X → Option X → List Record
  only t None None = []
  only t None (Some b) = mk t b ∷ []
  only t (Some a) None = mk t a ∷ []
  only t (Some a) (Some b) = cond (same a b) [] (mk t a ∷ mk t b ∷ [])

  -- each of them is of that time, and of a value that exactly one of the two is
  abbrev Shows : ℕ → Option X → Option X → Record → Type 0
  Shows t o n r = (v : X) × (r ≡ mk t v) × OneIs o n v

  only_shows : (t : ℕ) (o n : Option X) (r : Record) → Contains (only t o n) r ↔ Shows t o n r
  unfolding only
  only_shows t None None r = ((λ h. absurd (Contains-nil r h)), (λ h. elim h.2 [ inl a ↦ let w = a.0 in absurd (cc) | inr b ↦ let w = b.0 in absurd (cc) ]))
  only_shows t None (Some b) r = (
    (λ h. elim (Contains-cons_cases (mk t b) [] r h) [
      | inl is ↦ (b, sym is, inr (refl, λ e. cc))
      | inr more ↦ absurd (Contains-nil r more)
    ]),
    (λ h. elim h.2 [
      | inl a ↦ let w = a.0 in absurd (cc)
      | inr a ↦
          let w : Some b ≡ Some h.0 = a.0 in
          let v : b ≡ h.0 = cc in
          subst (λ q. Contains (mk t b ∷ []) q) (ap (mk t) v ∙ sym h.1) (Contains-cons_head (mk t b) [])
    ]),
  )
  only_shows t (Some a) None r = (
    (λ h. elim (Contains-cons_cases (mk t a) [] r h) [
      | inl is ↦ (a, sym is, inl (refl, λ e. cc))
      | inr more ↦ absurd (Contains-nil r more)
    ]),
    (λ h. elim h.2 [
      | inl b ↦
          let w : Some a ≡ Some h.0 = b.0 in
          let v : a ≡ h.0 = cc in
          subst (λ q. Contains (mk t a ∷ []) q) (ap (mk t) v ∙ sym h.1) (Contains-cons_head (mk t a) [])
      | inr b ↦ let w = b.0 in absurd (cc)
    ]),
  )
  only_shows t (Some a) (Some b) r = go (same a b) refl where
    apart : same a b ≡ false → a ≡ b → ⊥
    apart e is =
        let wrong : true ≡ false = sym (two a) ∙ (ap (same a) is ∙ e) in
        cc

    go : (v : Bool) → same a b ≡ v → Contains (cond v [] (mk t a ∷ mk t b ∷ [])) r ↔ Shows t (Some a) (Some b) r
    go true e =
        let is = one a b e in (
          (λ h. absurd (Contains-nil r h)),
          (λ h. elim h.2 [
            | inl f ↦ absurd (f.1 (ap (λ (q : X). Some q) (sym is) ∙ f.0))
            | inr f ↦ absurd (f.1 (ap (λ (q : X). Some q) is ∙ f.0))
          ]),
        )
    go false e = (
      (λ h. elim (Contains-cons_cases (mk t a) (mk t b ∷ []) r h) [
        | inl is ↦ (a, sym is, inl (refl, λ w. let v : b ≡ a = cc in apart e (sym v)))
        | inr more ↦ elim (Contains-cons_cases (mk t b) [] r more) [
          | inl is ↦ (b, sym is, inr (refl, λ w. let v : a ≡ b = cc in apart e v))
          | inr none ↦ absurd (Contains-nil r none)
        ]
      ]),
      (λ h. elim h.2 [
        | inl f ↦
            let w : Some a ≡ Some h.0 = f.0 in
            let v : a ≡ h.0 = cc in
            subst (λ q. Contains (mk t a ∷ mk t b ∷ []) q) (ap (mk t) v ∙ sym h.1) (Contains-cons_head (mk t a) (mk t b ∷ []))
        | inr f ↦
            let w : Some b ≡ Some h.0 = f.0 in
            let v : b ≡ h.0 = cc in
            subst (λ q. Contains (mk t a ∷ mk t b ∷ []) q) (ap (mk t) v ∙ sym h.1) (Contains-cons_tail (mk t a) (mk t b ∷ []) (mk t b) (Contains-cons_head (mk t b) []))
      ]),
    )

  only_once : (t : ℕ) (o n : Option X) → Once (only t o n)
  unfolding only
  only_once t None None = once_none
  only_once t None (Some b) = once_more (mk t b) [] (λ q h. absurd (Contains-nil q h)) once_none
  only_once t (Some a) None = once_more (mk t a) [] (λ q h. absurd (Contains-nil q h)) once_none
  only_once t (Some a) (Some b) = go (same a b) refl where
    go : (v : Bool) → same a b ≡ v → Once (cond v [] (mk t a ∷ mk t b ∷ []))
    go true e = once_none
    go false e = once_more (mk t a) (mk t b ∷ [])
        (λ q h is. elim (Contains-cons_cases (mk t b) [] q h) [
          | inl there ↦
              let v : a ≡ b = values t t a b (is ∙ sym there) in
              let wrong : true ≡ false = sym (two a) ∙ (ap (same a) v ∙ e) in
              cc
          | inr none ↦ Contains-nil q none
        ])
        (once_more (mk t b) [] (λ q h. absurd (Contains-nil q h)) once_none)

  module _ (o n : ℕ → Option X) where
    pub below : ℕ → List Record
    below zero = []
    below (suc x) = below x ++ only x (o x) (n x)

    pub below_shows : (x : ℕ) (r : Record) → Contains (below x) r ↔ ((t : ℕ) × (t < x) × Shows t (o t) (n t) r)
    unfolding below
    below_shows zero r = ((λ h. absurd (Contains-nil r h)), (λ h. absurd (omega (arith, h.1))))
    below_shows (suc x) r =
        let before = below_shows x r in
        let now = only_shows x (o x) (n x) r in (
          (λ h. elim (Contains-append_cases (below x) (only x (o x) (n x)) r h) [
            | inl first ↦ let w = before.0 first in (w.0, omega (arith, w.1), w.2)
            | inr here ↦ (x, omega arith, now.0 here)
          ]),
          (λ h. elim (earlier h.0 x h.1) [
            | inl lt ↦ Contains-append_left (below x) (only x (o x) (n x)) r (before.1 (h.0, lt, h.2))
            | inr is ↦ Contains-append_right (below x) (only x (o x) (n x)) r (now.1 (subst (λ q. Shows q (o q) (n q) r) is h.2))
          ]),
        ) where
          earlier : (t y : ℕ) → t < suc y → (t < y) ⊎ (t ≡ y)
          earlier t y h = grind arith

    pub below_once : (x : ℕ) → Once (below x)
    unfolding below
    below_once zero = once_none
    below_once (suc x) = once_both (below x) (only x (o x) (n x)) (below_once x) (only_once x (o x) (n x))
        (λ a b h g is.
        let first = (below_shows x a).0 h in
        let here = (only_shows x (o x) (n x) b).0 g in
        let wrong : first.0 ≡ x = times first.0 x first.2.0 here.0 (sym first.2.1 ∙ (is ∙ here.1)) in
        absurd (omega (arith, first.1, wrong)))

    pub below_length : (change : Option X → Option X → ℕ) → ((t : ℕ) (a b : Option X) → length (only t a b) ≡ change a b) → (x : ℕ) → length (below x) ≡ changes_below change o n x
    unfolding below
    below_length change counts zero = refl
    below_length change counts (suc x) = length-append (below x) (only x (o x) (n x)) ∙ (ap (λ k. k + length (only x (o x) (n x))) (below_length change counts x) ∙ ap (λ k. changes_below change o n x + k) (counts x (o x) (n x)))

  pub only_length : (change : Option X → Option X → ℕ) → change None None ≡ 0 → ((a : X) → change None (Some a) ≡ 1) → ((a : X) → change (Some a) None ≡ 1) → ((a b : X) → change (Some a) (Some b) ≡ cond (same a b) 0 2) → (t : ℕ) (a b : Option X) → length (only t a b) ≡ change a b
  unfolding only
  only_length change none last first both t None None = sym none
  only_length change none last first both t None (Some b) = sym (last b)
  only_length change none last first both t (Some a) None = sym (first a)
  only_length change none last first both t (Some a) (Some b) = go (same a b) ∙ sym (both a b) where
    go : (v : Bool) → length (cond v [] (mk t a ∷ mk t b ∷ [])) ≡ cond v 0 2
    go true = refl
    go false = refl
