-- How the first line of a text is found, and how blanks fall off at a line's end.
use Rattle.std.proofs.lemmas.Bool.Decides.{nat_tests}
use Rattle.std.proofs.lemmas.Grind.{common_steps}
use Rattle.std.proofs.Math.Bool.{and-true, and-false}
use Rattle.std.proofs.Common.{◌≡◌, ℕ, zero, suc, ◌+◌, ◌-◌, ◌<◌, true, false, List, [], ◌∷◌, ◌++◌, length, get_or, take, drop, refl, ap, arith, eq-eqb, nat_eq, take-append-drop}
use Rattle.std.proofs.Math.Seq.{drop-cons}
use Rattle.std.proofs.lemmas.List.{drop_all}
use Rattle.std.proofs.lemmas.Bool.{ne_eqb}
use Rattle.std.proofs.lemmas.List.Folds.{list_all-append}
use Rattle.std.specs.List.{list_all}
use Rattle.bench_reader.specs.Lines.{join_first, lines_of, is_blank, is_blank_line, row_of}

-- the front and the last byte
pub row_split : (row : List ℕ) → 0 < length row → row ≡ take (length row - 1) row ++ get_or row (length row - 1) 0 ∷ []
row_split row some = grind (arith, nat_tests, common_steps, drop-cons, drop_all, take-append-drop)

-- the first line ends before the first line feed
pub line_ends : (text : List ℕ) (end : ℕ) → end < length text → ((k : ℕ) → k < end → get_or text k 0 ≡ 10 → ⊥) → get_or text end 0 ≡ 10 → lines_of text ≡ take end text ∷ lines_of (drop (suc end) text)
line_ends [] end low none at = absurd (omega arith)
line_ends (byte ∷ text) zero low none at = rw (eq-eqb byte 10 at) refl
line_ends (byte ∷ text) (suc end) low none at =
    let other : nat_eq byte 10 ≡ false = ne_eqb byte 10 (λ same. none 0 (omega arith) same) in
    let rest : lines_of text ≡ take end text ∷ lines_of (drop (suc end) text) = line_ends text end (omega arith) (λ k h. none (suc k) (omega arith)) at in
    rw (other, rest) refl

-- a text that is not empty and has no line feed is one line
pub one_line : (text : List ℕ) → 0 < length text → ((k : ℕ) → k < length text → get_or text k 0 ≡ 10 → ⊥) → lines_of text ≡ text ∷ []
one_line [] some none = absurd (omega arith)
one_line (byte ∷ []) some none = rw (ne_eqb byte 10 (λ same. none 0 (omega arith) same)) refl
one_line (byte ∷ next ∷ text) some none =
    let other : nat_eq byte 10 ≡ false = ne_eqb byte 10 (λ same. none 0 (omega arith) same) in
    let rest : lines_of (next ∷ text) ≡ (next ∷ text) ∷ [] = one_line (next ∷ text) (omega arith) (λ k h. none (suc k) (omega arith)) in
    rw other (ap (join_first byte) rest)

-- a blank at the end falls off
pub row-blank : (front : List ℕ) (last : ℕ) → is_blank last ≡ true → row_of (front ++ last ∷ []) ≡ row_of front
row-blank [] last blank = rw blank refl
row-blank (byte ∷ front) last blank = grind (arith, nat_tests, common_steps, row-blank front last blank, list_all-append, and-true)

-- a byte at the end that is not blank stays, and all before it
pub row-letter : (front : List ℕ) (last : ℕ) → is_blank last ≡ false → row_of (front ++ last ∷ []) ≡ front ++ last ∷ []
row-letter [] last letter = rw letter refl
row-letter (byte ∷ front) last letter = grind (arith, nat_tests, common_steps, row-letter front last letter, list_all-append, and-false)

-- the lines so far are blank, and these are left
pub record BlankSoFar (body rest : List (List ℕ)) (first number : ℕ) : Type 0 where
  pub blanks : List (List ℕ)
  pub split : body ≡ blanks ++ rest
  pub blank : list_all is_blank_line blanks ≡ true
  pub count : number ≡ first + length blanks
