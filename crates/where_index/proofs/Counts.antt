-- How many agents pass a test.
use Rattle.std.proofs.Common.{◌≡◌, ◌≢◌, ◌⊎◌, inl, inr, ℕ, zero, suc, ◌+◌, ◌<◌, ◌≤◌, Bool, true, false, cond, refl, sym, ap, arith}
use Rattle.where_index.specs.Flows.{many_below}

abbrev one : Bool → ℕ
one b = cond b 1 0

pub same_or_apart : (a b : ℕ) → (a ≡ b) ⊎ (a ≢ b)
same_or_apart a b = grind arith

true_or_not : (b : Bool) → (b ≡ true) ⊎ (b ≡ false)
true_or_not b = grind arith

pub many-same : (p q : ℕ → Bool) (n : ℕ) → ((a : ℕ) → a < n → p a ≡ q a) → many_below p n ≡ many_below q n
unfolding many_below
many-same p q zero same = refl
many-same p q (suc n) same = omega (arith, many-same p q n (λ a h. same a (omega arith)), ap one (same n (omega arith)))

pub many-none : (p : ℕ → Bool) (n : ℕ) → ((a : ℕ) → p a ≡ false) → many_below p n ≡ 0
unfolding many_below
many-none p zero none = refl
many-none p (suc n) none = omega (arith, many-none p n none, ap one (none n))

one_le : (b : Bool) → one b ≤ 1
one_le b = grind arith

pub many-le : (p : ℕ → Bool) (n : ℕ) → many_below p n ≤ n
unfolding many_below
many-le p zero = omega arith
many-le p (suc n) = omega (arith, many-le p n, one_le (p n))

-- one more passes
pub many-more : (p q : ℕ → Bool) (k n : ℕ) → k < n → p k ≡ false → q k ≡ true → ((a : ℕ) → a ≢ k → p a ≡ q a) → many_below q n ≡ many_below p n + 1
unfolding many_below
many-more p q k zero lt off on same = absurd (omega arith)
many-more p q k (suc n) lt off on same = elim (same_or_apart k n) [
  | inl is ↦ grind (arith, many-same p q n (λ a h. same a (λ e. omega (arith, e, is, h))))
  | inr apart ↦ grind (arith, many-more p q k n (omega arith) off on same, same n (λ e. apart (sym e)))
]

pub many-some : (p : ℕ → Bool) (n : ℕ) → 0 < many_below p n → (a : ℕ) × (p a ≡ true)
unfolding many_below
many-some p zero h = absurd (omega arith)
many-some p (suc n) h = elim (true_or_not (p n)) [
  | inl on ↦ (n, on)
  | inr off ↦ let last : one (p n) ≡ 0 = ap one off in many-some p n (omega (arith, last, h))
]

pub many-has : (p : ℕ → Bool) (n a : ℕ) → a < n → p a ≡ true → 0 < many_below p n
unfolding many_below
many-has p zero a lt on = absurd (omega arith)
many-has p (suc n) a lt on = grind (arith, many-has p n a)
