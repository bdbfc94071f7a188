-- A row cut into parts.
use Rattle.std.proofs.Common.{◌≡◌, ℕ, zero, suc, ◌+◌, ◌-◌, ◌<◌, ◌≤◌, List, [], ◌∷◌, ◌++◌, length, take, drop, sum, Option, Some, None, option_to_list, unwrap_or, refl, sym, ap, subst, ◌∙◌, arith, length-append, length-drop}
use Rattle.std.proofs.lemmas.List.{take_all, take-append-le, drop-append-le, take_at, drop_at, drop-drop, take-append-drop, drop_all, length-take-le, nil_from_length}
use Rattle.std.proofs.lemmas.Bool.{false≢true}
use Rattle.std.proofs.lemmas.List.Sums.{sum_by-cons}
use mathlib.Core.Logic.{◌↔◌}
use Rattle.std.specs.Option.{IsSome}
use Rattle.change_history.specs.Logged.{parts, joined}

pub length-parts : {X : Type 0} → (counts : List ℕ) (row : List X) → length (parts counts row) ≡ length counts
length-parts [] row = refl
length-parts (n ∷ counts) row = grind (arith, length-parts counts (drop n row))

-- one part more at the end
pub parts_push : {X : Type 0} → (counts : List ℕ) (row more : List X) (n : ℕ) → sum counts ≡ length row → n ≡ length more → parts (counts ++ n ∷ []) (row ++ more) ≡ parts counts row ++ more ∷ []
parts_push [] row more n all is =
    let none : row ≡ [] = nil_from_length row (omega arith) in
    rw none (ap (λ l. l ∷ []) (take_all n more (omega arith)))
parts_push (c ∷ counts) row more n all is =
    let cons : sum (c ∷ counts) ≡ c + sum counts = sum_by-cons (λ x. x) c counts in
    let within : c ≤ length row = omega arith in
    let rest = length-drop c row in
    let left : sum counts ≡ length (drop c row) = omega arith in
    ap (λ l. l ∷ parts (counts ++ n ∷ []) (drop c (row ++ more))) (take-append-le c row more within)
    ∙ ap (λ l. take c row ∷ parts (counts ++ n ∷ []) l) (drop-append-le c row more within)
    ∙ ap (λ l. take c row ∷ l) (parts_push counts (drop c row) more n left is)

-- all parts joined are the row
pub joined-parts : {X : Type 0} → (counts : List ℕ) (row : List X) → sum counts ≡ length row → joined (parts counts row) ≡ row
joined-parts [] row all = sym (nil_from_length row (omega arith))
joined-parts (c ∷ counts) row all =
    let cons : sum (c ∷ counts) ≡ c + sum counts = sum_by-cons (λ x. x) c counts in
    let rest = length-drop c row in
    let left : sum counts ≡ length (drop c row) = omega arith in
    ap (λ l. take c row ++ l) (joined-parts counts (drop c row) left) ∙ take-append-drop c row

-- so many of them are behind a version
pub sum_behind : (counts : List ℕ) (version : ℕ) → sum (drop version counts) ≤ sum counts
sum_behind counts zero = omega arith
sum_behind [] (suc version) = omega arith
sum_behind (c ∷ counts) (suc version) =
    let cons : sum (c ∷ counts) ≡ c + sum counts = sum_by-cons (λ x. x) c counts in
    let same : sum (drop (suc version) (c ∷ counts)) ≡ sum (drop version counts) = refl in
    let h = sum_behind counts version in
    omega (arith, h)

-- the parts from a version on, joined, are the end of the row
pub joined_since : {X : Type 0} → (counts : List ℕ) (row : List X) (version : ℕ) → sum counts ≡ length row → joined (drop version (parts counts row)) ≡ drop (length row - sum (drop version counts)) row
joined_since counts row zero all =
    let none : length row - sum counts ≡ 0 = omega arith in
    joined-parts counts row all ∙ sym (ap (λ n. drop n row) none)
joined_since [] row (suc version) all = sym (drop_all (length row - 0) row (omega arith))
joined_since (c ∷ counts) row (suc version) all =
    let cons : sum (c ∷ counts) ≡ c + sum counts = sum_by-cons (λ x. x) c counts in
    let rest = length-drop c row in
    let left : sum counts ≡ length (drop c row) = omega arith in
    let behind = sum_behind counts version in
    let where_ : c + (length (drop c row) - sum (drop version counts)) ≡ length row - sum (drop version counts) = omega (arith, behind) in
    joined_since counts (drop c row) version left ∙ drop-drop (length (drop c row) - sum (drop version counts)) c row ∙ ap (λ n. drop n row) where_

pub length_since : {X : Type 0} → (counts : List ℕ) (row : List X) (version : ℕ) → sum counts ≡ length row → length (joined (drop version (parts counts row))) ≡ sum (drop version counts)
length_since counts row version all =
    let behind = sum_behind counts version in
    let rest = length-drop (length row - sum (drop version counts)) row in
    ap length (joined_since counts row version all) ∙ omega (arith, behind, rest)

-- without the first part, if there is one
none_there : {X : Type 0} → (counts : List X) (many : ℕ) → many ≡ length counts → (0 < many → ⊥) → counts ≡ []
none_there [] many is none = refl
none_there (x ∷ counts) many is none = absurd (none (omega arith))

module _ {X : Type 0} (counts later : List ℕ) (row : List X) (n many : ℕ) (long : many ≡ length counts) where
  pub parts_forgotten : (first : Option ℕ) (log : List (List X)) → counts ≡ option_to_list first ++ later → IsSome first ↔ (0 < many) → n ≡ unwrap_or first 0 → parts counts row ≡ log → parts later (drop n row) ≡ drop 1 log
  parts_forgotten None log is there number view =
      let none : counts ≡ [] = none_there counts many long (λ some. false≢true (there.1 some)) in
      let still : later ≡ [] = sym is ∙ none in
      ap (λ c. parts c (drop n row)) still ∙ ap (λ c. drop 1 (parts c row)) (sym none) ∙ ap (drop 1) view
  parts_forgotten (Some one) log is there number view = ap (λ k. parts later (drop k row)) number ∙ ap (λ c. drop 1 (parts c row)) (sym is) ∙ ap (drop 1) view

  pub sum_forgotten : (first : Option ℕ) → counts ≡ option_to_list first ++ later → n ≡ unwrap_or first 0 → sum counts ≡ length row → sum later ≡ length (drop n row)
  sum_forgotten None is number all = let same = ap sum is in let rest = length-drop n row in omega (arith, same, rest)
  sum_forgotten (Some one) is number all =
      let cons : sum counts ≡ one + sum later = ap sum is ∙ sum_by-cons (λ x. x) one later in
      let rest = length-drop n row in
      omega (arith, cons, rest, all)
