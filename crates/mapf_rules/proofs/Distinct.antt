-- Lists of distinct numbers: one more of them, and how many there can be.
use Rattle.std.proofs.Common.{◌≡◌, ◌≢◌, ℕ, zero, suc, ◌+◌, ◌<◌, ◌≤◌, List, [], ◌∷◌, ◌++◌, length, get_or, refl, sym, subst, ◌∙◌, inl, inr, arith, length-append}
use Rattle.std.specs.List.{Contains, AllPairs, remove}
use Rattle.std.proofs.lemmas.Bool.{cases_lt}
use Rattle.std.proofs.lemmas.List.{get_or_default, get_or_append_left, get_or_push}
use Rattle.std.proofs.lemmas.List.Edits.{length-remove}
use Rattle.std.proofs.lemmas.List.Sorted.{IsPermutation-remove, Contains-permutation}
use Rattle.plan_table.proofs.Order.{Contains-cons_head, Contains-cons_tail, Contains-cons_cases, AllPairs-head, AllPairs-tail}

-- distinct agents, and one more
pub distinct_more : (chain : List ℕ) (next : ℕ) → AllPairs (λ a b. a ≢ b) chain → (Contains chain next → ⊥) → AllPairs (λ a b. a ≢ b) (chain ++ next ∷ [])
distinct_more chain next distinct absent i j d lt within same =
    let n : length (chain ++ next ∷ []) ≡ length chain + 1 = length-append chain (next ∷ []) in
    let i_old : get_or (chain ++ next ∷ []) i d ≡ get_or chain i d = get_or_append_left chain (next ∷ []) d i (omega arith) in
    elim (cases_lt j (length chain)) [
      | inl old ↦ distinct i j d lt old (sym i_old ∙ same ∙ get_or_append_left chain (next ∷ []) d j old)
      | inr new ↦
          let at_end : j ≡ length chain = omega arith in
          let j_new : get_or (chain ++ next ∷ []) j d ≡ next = rw at_end (get_or_push chain next d (length chain) refl) in
          let here : get_or chain i d ≡ next = sym i_old ∙ same ∙ j_new in
          absent (i, omega arith, get_or_default chain i next d (omega arith) ∙ here)
    ]

-- a list of numbers, no two of them equal and each in another list, is no longer than that
pub distinct_fits : (xs ys : List ℕ) → AllPairs (λ a b. a ≢ b) xs → ((x : ℕ) → Contains xs x → Contains ys x) → length xs ≤ length ys
distinct_fits [] ys distinct into = omega arith
distinct_fits (x ∷ xs) ys distinct into =
    let at = into x (Contains-cons_head x xs) in
    let parts = IsPermutation-remove ys at.0 x at.1 (sym at.2) in
    let shorter = length-remove ys at.0 at.1 in
    let rest = distinct_fits xs (remove ys at.0) (AllPairs-tail (λ (a b : ℕ). a ≢ b) x xs distinct) (λ z z_in. elim (Contains-cons_cases x (remove ys at.0) z (Contains-permutation ys (x ∷ remove ys at.0) z parts (into z (Contains-cons_tail x xs z z_in)))) [
      | inl same ↦ absurd (AllPairs-head (λ (a b : ℕ). a ≢ b) x xs distinct z z_in same)
      | inr later ↦ later
    ]) in
    omega arith

-- ---- few numbers lie below another
down_from : ℕ → List ℕ
down_from zero = []
down_from (suc n) = n ∷ down_from n

down_length : (n : ℕ) → length (down_from n) ≡ n
unfolding down_from
down_length zero = refl
down_length (suc n) = let rest = down_length n in omega arith

down_has : (n x : ℕ) → x < n → Contains (down_from n) x
unfolding down_from
down_has zero x low = absurd (omega arith)
down_has (suc n) x low = elim (cases_lt x n) [
  | inl lower ↦ Contains-cons_tail n (down_from n) x (down_has n x lower)
  | inr at ↦ let same : n ≡ x = omega arith in subst (Contains (n ∷ down_from n)) same (Contains-cons_head n (down_from n))
]

-- distinct numbers below n are no more than n
pub distinct_below : (n : ℕ) (xs : List ℕ) → AllPairs (λ a b. a ≢ b) xs → ((x : ℕ) → Contains xs x → x < n) → length xs ≤ n
distinct_below n xs distinct low =
    let fits = distinct_fits xs (down_from n) distinct (λ x has. down_has n x (low x has)) in
    omega (arith, down_length n)
