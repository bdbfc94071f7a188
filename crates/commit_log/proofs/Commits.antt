-- A commit line is one line, that begins as no line of an entry does.
use Rattle.std.proofs.Common.{◌≡◌, ℕ, zero, suc, ◌<◌, ◌^◌, ◌/◌, ◌%◌, true, not, nat_eq, List, [], ◌∷◌, ◌++◌, take, codes, decimal, get_or, refl, ◌∙◌, arith}
use Rattle.std.proofs.lemmas.Bool.{ne_eqb, and_parts}
use Rattle.std.proofs.lemmas.List.Folds.{list_all-append}
use Rattle.std.proofs.lemmas.Fmt.{decimal_is_IsNumeral}
use Rattle.std.proofs.lemmas.Str.Parse.{digit_from_value}
use Rattle.std.specs.Int.{IsInRange}
use Rattle.std.specs.Str.Parse.{AllDigits}
use Rattle.hex.specs.Hex.{encode_with, lower_digits}
use Rattle.sha2.specs.Sha256.{sha256}
use Rattle.commit_log.specs.Lines.{is_one_line, begins_commit}
use Rattle.commit_log.specs.Text.{check_of, commit_words}

one-line-digits : (digits : List ℕ) → AllDigits 10 digits → is_one_line digits ≡ true
one-line-digits [] all = refl
one-line-digits (digit ∷ digits) all =
    let range : IsInRange 48 57 digit = digit_from_value digit all.0 in
    rw (ne_eqb digit 10 (omega arith), one-line-digits digits all.1) refl

pub one-line-decimal : (n : ℕ) → n < 2 ^ 64 → is_one_line (decimal n) ≡ true
one-line-decimal n small = one-line-digits (decimal n) (decimal_is_IsNumeral n small).0.1

digit-at : (digits : List ℕ) (k : ℕ) → is_one_line digits ≡ true → not (nat_eq (get_or digits k 0) 10) ≡ true
digit-at [] k one = refl
digit-at (x ∷ digits) zero one = (and_parts (not (nat_eq x 10)) (is_one_line digits) one).0
digit-at (x ∷ digits) (suc k) one = digit-at digits k (and_parts (not (nat_eq x 10)) (is_one_line digits) one).1

one-line-hex : (bytes : List ℕ) → is_one_line (encode_with lower_digits bytes) ≡ true
unfolding encode_with
one-line-hex [] = refl
one-line-hex (b ∷ bytes) = rw (digit-at lower_digits (b / 16) refl, digit-at lower_digits (b % 16) refl, one-line-hex bytes) refl

pub commit-single : (number : ℕ) (before text : List ℕ) → number < 2 ^ 64 → is_one_line (commit_words number (check_of before text)) ≡ true
commit-single number before text small =
    list_all-append (λ (byte : ℕ). not (nat_eq byte 10)) (decimal number) (codes " " ++ check_of before text)
    ∙ rw (one-line-decimal number small, one-line-hex (take 8 (sha256 (before ++ text)))) refl

pub commit-begins : (number : ℕ) (check : List ℕ) → begins_commit (commit_words number check) ≡ true
commit-begins number check = refl
