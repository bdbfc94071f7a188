-- The numbers that a pass may give away, and whose they then are.
use Rattle.std.proofs.Common.{◌≡◌, ◌⊎◌, inl, inr, ◌||◌, ℕ, zero, suc, ◌<◌, Bool, true, false, true≢false, List, [], ◌∷◌, length, replicate, get_or, refl, sym, ap, ◌∙◌, arith, ◌≢◌, eqb, ◌++◌, ⊎_elim, eq-eqb, ne_eqb}
use mathlib.Core.Option.{some, some-injective, some-ne-none}
use lib.ListN.{get_elem?}
use Rattle.desk_shared.specs.Numbers.{first_true}
use Rattle.desk_shared.specs.Calls.{HasNumbers, either_of}
use prog.Atomic.{either}

pub at_or : {A : Type 0} (l : List A) (i : ℕ) (a d : A) → get_elem? l i ≡ some a → get_or l i d ≡ a
at_or [] i a d e = absurd (some-ne-none a (sym e))
at_or (x ∷ xs) zero a d e = some-injective x a e
at_or (x ∷ xs) (suc i) a d e = at_or xs i a d e

pub blank : (n u : ℕ) → get_or (replicate n false) u false ≡ false
blank zero u = refl
blank (suc n) zero = refl
blank (suc n) (suc u) = blank n u

pub numbers_none : (n : ℕ) → HasNumbers 1 (replicate n false)
numbers_none n u = ((λ e. absurd (true≢false (sym e ∙ blank n u))), λ a b. absurd (omega arith))

pub either_at : (xs ys : List Bool) (u : ℕ) → get_or (either_of xs ys) u false ≡ true → (get_or xs u false ≡ true) ⊎ (get_or ys u false ≡ true)
either_at [] ys u e = inr e
either_at (x ∷ xs) [] u e = inl e
either_at (true ∷ xs) (y ∷ ys) zero e = inl refl
either_at (false ∷ xs) (y ∷ ys) zero e = inr e
either_at (x ∷ xs) (y ∷ ys) (suc u) e = either_at xs ys u e

pub first_true_is : (xs : List Bool) (i : ℕ) → get_or xs i false ≡ true → ((u : ℕ) → u < i → get_or xs u false ≡ false) → i ≡ first_true xs
first_true_is [] i e below = absurd (true≢false (sym e))
first_true_is (true ∷ xs) zero e below = refl
first_true_is (true ∷ xs) (suc i) e below = absurd (true≢false (below 0 (omega arith)))
first_true_is (false ∷ xs) zero e below = absurd (true≢false (sym e))
first_true_is (false ∷ xs) (suc i) e below = ap suc (first_true_is xs i e (λ u l. below (suc u) (omega arith)))

pub merged : (xs ys zs : List Bool) → length zs ≡ length xs → length ys ≡ length xs → ((u : ℕ) → u < length xs → get_or zs u false ≡ (get_or xs u false || get_or ys u false)) → zs ≡ either_of xs ys
merged [] [] [] a b h = refl
merged [] (y ∷ ys) zs a b h = absurd (omega arith)
merged [] [] (z ∷ zs) a b h = absurd (omega arith)
merged (x ∷ xs) [] zs a b h = absurd (omega arith)
merged (x ∷ xs) (y ∷ ys) [] a b h = absurd (omega arith)
merged (x ∷ xs) (y ∷ ys) (z ∷ zs) a b h = let head : z ≡ (x || y) = h 0 (omega arith) in let rest = merged xs ys zs (omega arith) (omega arith) (λ u l. h (suc u) (omega arith)) in λ i. head i ∷ rest i

abbrev pub put : (ℕ → ℕ) → ℕ → ℕ → ℕ → ℕ
put f q x u = either (eqb u q) x (f u)

pub put_here : (f : ℕ → ℕ) (q x : ℕ) → put f q x q ≡ x
put_here f q x = ap (λ (b : Bool). either b x (f q)) (eq-eqb q q refl)

pub put_else : (f : ℕ → ℕ) (q x u : ℕ) → u ≢ q → put f q x u ≡ f u
put_else f q x u other = ap (λ (b : Bool). either b x (f u)) (ne_eqb u q other)

-- what the seat `from` had is the seat `to`'s
abbrev pub moved : (ℕ → ℕ) → ℕ → ℕ → ℕ → ℕ
moved f from to u = either (eqb (f u) from) to (f u)

pub moved_here : (f : ℕ → ℕ) (from to u : ℕ) → f u ≡ from → moved f from to u ≡ to
moved_here f from to u is = ap (λ (b : Bool). either b to (f u)) (eq-eqb (f u) from is)

pub moved_else : (f : ℕ → ℕ) (from to u : ℕ) → f u ≢ from → moved f from to u ≡ f u
moved_else f from to u other = ap (λ (b : Bool). either b to (f u)) (ne_eqb (f u) from other)

pub at_end : {A : Type 0} (l : List A) (a b : A) (j : ℕ) → get_elem? (l ++ a ∷ []) j ≡ some b → (get_elem? l j ≡ some b) ⊎ ((a ≡ b) × (j ≡ length l))
at_end [] a b zero e = inr (some-injective a b e, refl)
at_end [] a b (suc j) e = absurd (some-ne-none b (sym e))
at_end (x ∷ xs) a b zero e = inl e
at_end (x ∷ xs) a b (suc j) e = ⊎_elim (λ t. inl t) (λ t. inr (t.0, ap suc t.1)) (at_end xs a b j e)
