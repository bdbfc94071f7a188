-- Lists of which one element is put in, taken out, or told of.
use Rattle.std.proofs.lemmas.Grind.{moves, elements}
use Rattle.std.proofs.lemmas.Bool.Decides.{nat_tests}
use Rattle.std.specs.Prelude.{slice_index_or, All, Contains, insert, remove, sum_by}
use Rattle.std.specs.List.{AllZip}
use Rattle.std.proofs.Common.{◌≡◌, ℕ, suc, ◌+◌, ◌-◌, ◌<◌, ◌≤◌, ◌⊎◌, List, ◌∷◌, length, map, take, drop, get_or, refl, sym, ◌∙◌, inl, inr, arith}
use Rattle.std.proofs.Math.ListN.{set}
use Rattle.std.proofs.lemmas.Bool.{cases_eq, cases_lt}
use Rattle.std.proofs.lemmas.List.{map-append, take-map, drop-map, take_more, take_more_set}
use Rattle.std.proofs.lemmas.List.Sums.{fold_push}
use Rattle.std.proofs.lemmas.List.Elements.{AllZip-push}
use Rattle.std.proofs.lemmas.List.Edits.{length-insert, length-remove, get_or-insert_at, get_or-insert_below, get_or-insert_above, get_or-remove_below, get_or-remove_above}

-- where a place of a list with one more stands
pub insert_cases : {X : Type 0} (xs : List X) (i : ℕ) (y : X) (k : ℕ) (d : X) → i ≤ length xs → k < length (insert xs i y) →
    ((k < i) × (get_or (insert xs i y) k d ≡ get_or xs k d)) ⊎ (((k ≡ i) × (get_or (insert xs i y) k d ≡ y)) ⊎ ((m : ℕ) × (k ≡ m + 1) × (i ≤ m) × (m < length xs) × (get_or (insert xs i y) k d ≡ get_or xs m d)))
insert_cases xs i y k d hi hk = elim (cases_lt k i) [
  | inl lt ↦ inl (lt, get_or-insert_below xs i y d k lt hi)
  | inr le ↦ elim (cases_eq k i) [
    | inl e ↦ inr (inl (e, rw e (get_or-insert_at xs i y d hi)))
    | inr ne ↦ inr (inr (
      k - 1,
      omega arith,
      omega arith,
      omega (arith, length-insert xs i y hi),
      grind (arith, get_or-insert_above xs i y d (k - 1) (omega arith) hi),
    ))
  ]
]

-- where a place of a list with one less stands
pub remove_cases : {X : Type 0} (xs : List X) (i k : ℕ) (d : X) → i < length xs → k < length (remove xs i) →
    ((k < i) × (get_or (remove xs i) k d ≡ get_or xs k d)) ⊎ ((i ≤ k) × (k + 1 < length xs) × (get_or (remove xs i) k d ≡ get_or xs (k + 1) d))
remove_cases xs i k d hi hk = grind (arith, nat_tests, length-remove xs i hi, get_or-remove_below xs i d k, get_or-remove_above xs i d k)

-- what is made of each element
pub map-insert : {X Y : Type 0} (f : X → Y) (xs : List X) (x : X) (i : ℕ) → insert (map f xs) i (f x) ≡ map f (insert xs i x)
map-insert f xs x i = sym (map-append f (take i xs) (x ∷ drop i xs) ∙ rw (take-map, drop-map) refl)

pub map-remove : {X Y : Type 0} (f : X → Y) (xs : List X) (i : ℕ) → remove (map f xs) i ≡ map f (remove xs i)
map-remove f xs i = sym (map-append f (take i xs) (drop (suc i) xs) ∙ rw (take-map, drop-map) refl)

-- what holds of each element, with one more and with one less
pub All-insert : {X : Type 0} (P : X → Type 0) (xs : List X) (x : X) (i : ℕ) → i ≤ length xs → All P xs → P x → All P (insert xs i x)
All-insert P xs x i room all here = grind (arith, elements)

pub All-remove : {X : Type 0} (P : X → Type 0) (xs : List X) (i : ℕ) → i < length xs → All P xs → All P (remove xs i)
All-remove P xs i h all k d hk = grind (arith, remove_cases xs i k d h hk, all k d, all (k + 1) d)

-- what stands in a list with one more
pub Contains-insert : {X : Type 0} (xs : List X) (i : ℕ) (y x : X) → i ≤ length xs → Contains (insert xs i y) x → (x ≡ y) ⊎ Contains xs x
Contains-insert xs i y x hi con = grind (arith, moves)

pub Contains-inserted : {X : Type 0} (xs : List X) (i : ℕ) (y x : X) → i ≤ length xs → Contains xs x → Contains (insert xs i y) x
Contains-inserted xs i y x hi (k, hk, e) =
    elim (cases_lt k i) [
      | inl lt ↦ (k, omega (arith, length-insert xs i y hi), get_or-insert_below xs i y x k lt hi ∙ e)
      | inr le ↦ (k + 1, omega (arith, length-insert xs i y hi), get_or-insert_above xs i y x k le hi ∙ e)
    ]

pub Contains-new : {X : Type 0} (xs : List X) (i : ℕ) (y : X) → i ≤ length xs → Contains (insert xs i y) y
Contains-new xs i y hi = (i, omega (arith, length-insert xs i y hi), get_or-insert_at xs i y y hi)

-- what stands in a list with one less
pub Contains-remove : {X : Type 0} (xs : List X) (i : ℕ) (x : X) → i < length xs → Contains (remove xs i) x → Contains xs x
Contains-remove xs i x hi (k, hk, e) =
    elim (remove_cases xs i k x hi hk) [
      | inl (lt, same) ↦ (k, omega arith, sym same ∙ e)
      | inr (le, within, same) ↦ (k + 1, within, sym same ∙ e)
    ]

pub Contains-removed : {X : Type 0} (xs : List X) (i : ℕ) (x : X) → i < length xs → (get_or xs i x ≡ x → ⊥) → Contains xs x → Contains (remove xs i) x
Contains-removed xs i x hi ne (k, hk, e) = elim (cases_lt k i) [
  | inl lt ↦ (k, omega (arith, length-remove xs i hi), get_or-remove_below xs i x k lt hi ∙ e)
  | inr le ↦ (k - 1, grind (arith, length-remove xs i hi), grind (arith, get_or-remove_above xs i x (k - 1)))
]

-- the relation holds of one more
pub AllZip-more : {X : Type 0} (R : X → X → Type 0) (old now : List X) (i : ℕ) (x new : X) → i < length old → i < length now → AllZip R (take i old) (take i now) → R (slice_index_or old i x) new →
    AllZip R (take (i + 1) old) (take (i + 1) (set now i new))
AllZip-more R old now i x new ho hn all one = rw (take_more old i x ho, take_more_set now i new hn) (AllZip-push R (take i old) (take i now) (slice_index_or old i x) new all one)

-- and one more is counted
pub sum_by-more : {X : Type 0} (f : X → ℕ) (now : List X) (i : ℕ) (new : X) → i < length now → sum_by f (take (i + 1) (set now i new)) ≡ sum_by f (take i now) + f new
sum_by-more f now i new h = rw (take_more_set now i new h) (fold_push (λ (a : ℕ) (x : _). a + f x) 0 (take i now) new)
