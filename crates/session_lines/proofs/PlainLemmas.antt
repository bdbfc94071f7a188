-- How digits before a comma and behind it make a word that names a cell.
use Rattle.std.proofs.lemmas.Bool.Decides.{nat_tests}
use Rattle.std.proofs.lemmas.Grind.{common_steps}
use Rattle.std.proofs.lemmas.Int.Digits.{digits_value_push}
use Rattle.std.proofs.lemmas.List.{take_at, drop_at, length-append}
use Rattle.std.proofs.lemmas.Str.{digit_value_digit}
use Rattle.std.proofs.Common.{◌≡◌, ℕ, ◌+◌, ◌*◌, ◌-◌, ◌<◌, Bool, true, false, ◌&&◌, List, [], ◌∷◌, ◌++◌, length, take, drop, refl, ap, sym, ◌∙◌, arith, append_assoc, append-nil, subst, get_or, Some}
use Rattle.std.specs.List.{list_all, position_or_len, before_first, after_first}
use Rattle.std.specs.Char.{is_ascii_digit}
use Rattle.std.specs.Str.{all_ascii_digits}
use Rattle.std.specs.Str.Parse.{digits_value}
use Rattle.grid_cells.specs.Cell.{point}
use Rattle.grid_cells.specs.declared.sizes.TheConstants.{MOST_SIDE}
use Rattle.bench_reader.specs.Words.{is_in_word, ends_word, words_of}
use Rattle.bench_reader.proofs.WordLemmas.{word_ends}
use Rattle.session_lines.specs.Values.{place_of, is_comma}
use Rattle.session_lines.specs.Plain.{BeginsWithPlace, BeginsWithCell}

-- digits of a line's front so far, which write that number
pub record DigitsSoFar (line rest : List ℕ) (number : ℕ) : Type 0 where
  pub digits : List ℕ
  pub split : line ≡ digits ++ rest
  pub all : all_ascii_digits digits ≡ true
  pub value : digits_value 10 digits ≡ number
  pub fits : number < MOST_SIDE

both : (a b : Bool) → (a && b) ≡ true → (a ≡ true) × (b ≡ true)
both true b h = (refl, h)
both false b h = absurd (cc)

digit_apart : (c : ℕ) → is_ascii_digit c ≡ true → (is_in_word c ≡ true) × (is_comma c ≡ false)
digit_apart c digit = grind (arith, nat_tests)

all_push : (digits : List ℕ) (c : ℕ) → all_ascii_digits digits ≡ true → is_ascii_digit c ≡ true → all_ascii_digits (digits ++ c ∷ []) ≡ true
all_push [] c all digit = rw digit refl
all_push (d ∷ digits) c all digit =
    let h = both (is_ascii_digit d) (all_ascii_digits digits) all in
    rw h.0 (all_push digits c h.1 digit)

-- one digit more
pub digit_more : (line rest tail : List ℕ) (number c next : ℕ) → DigitsSoFar line rest number → rest ≡ c ∷ tail → is_ascii_digit c ≡ true → next ≡ number * 10 + (c - 48) → next < MOST_SIDE → DigitsSoFar line tail next
digit_more line rest tail number c next so first digit is fits = record {
  digits = so.digits ++ c ∷ [];
  split = so.split ∙ ap (λ r. so.digits ++ r) first ∙ sym (append_assoc so.digits (c ∷ []) tail);
  all = all_push so.digits c so.all digit;
  value = grind (arith, nat_tests, common_steps, digits_value_push 10 so.digits c, digit_value_digit c, so.value);
  fits = fits;
}

-- the same, where the rest is that of a pattern
pub digit_next : (line rest : List ℕ) (number next : ℕ) → DigitsSoFar line rest number → 0 < length rest → is_ascii_digit (get_or rest 0 0) ≡ true → next ≡ number * 10 + (get_or rest 0 0 - 48) → next < MOST_SIDE → DigitsSoFar line (take (length rest - 1) (drop 1 rest)) next
digit_next line [] number next so some digit is fits = absurd (omega (arith, some))
digit_next line (c ∷ tail) number next so some digit is fits =
    let count : length (c ∷ tail) - 1 ≡ length tail = omega arith in
    let all : take (length tail) (tail ++ []) ≡ tail = take_at tail [] (length tail) refl in
    let same : take (length (c ∷ tail) - 1) tail ≡ tail = ap (λ n. take n tail) count ∙ (rw append-nil at all) in
    subst (λ r. DigitsSoFar line r next) (sym same) (digit_more line (c ∷ tail) tail number c next so refl digit is fits)

place_is : (digits : List ℕ) (number : ℕ) → 0 < length digits → all_ascii_digits digits ≡ true → digits_value 10 digits ≡ number → number < MOST_SIDE → place_of digits ≡ Some number
place_is digits number some all value fits = grind (arith, nat_tests, common_steps)

-- digits, of which there are some
pub place_read : (line rest : List ℕ) (number : ℕ) → DigitsSoFar line rest number → length rest < length line → BeginsWithPlace line number rest
place_read line rest number so shorter =
    let long : length line ≡ length so.digits + length rest = ap length so.split ∙ length-append so.digits rest in
    (so.digits, so.split, so.all, place_is so.digits number (omega (arith, long)) so.all so.value so.fits)

digits_in_word : (digits rest : List ℕ) → all_ascii_digits digits ≡ true → list_all is_in_word rest ≡ true → list_all is_in_word (digits ++ rest) ≡ true
digits_in_word [] rest all word = word
digits_in_word (d ∷ digits) rest all word =
    let h = both (is_ascii_digit d) (all_ascii_digits digits) all in
    rw ((digit_apart d h.0).0) (digits_in_word digits rest h.1 word)

comma_behind : (digits rest : List ℕ) → all_ascii_digits digits ≡ true → position_or_len is_comma (digits ++ 44 ∷ rest) ≡ length digits
comma_behind [] rest all = refl
comma_behind (d ∷ digits) rest all =
    let h = both (is_ascii_digit d) (all_ascii_digits digits) all in
    let one_more : 1 + length digits ≡ length (d ∷ digits) = omega arith in
    rw ((digit_apart d h.0).1) (ap (λ n. 1 + n) (comma_behind digits rest h.1) ∙ one_more)

before_comma : (digits rest : List ℕ) → all_ascii_digits digits ≡ true → before_first is_comma (digits ++ 44 ∷ rest) ≡ digits
before_comma digits rest all = take_at digits (44 ∷ rest) _ (sym (comma_behind digits rest all))

after_comma : (digits rest : List ℕ) → all_ascii_digits digits ≡ true → after_first is_comma (digits ++ 44 ∷ rest) ≡ rest
after_comma digits rest all =
    ap (λ word. drop (position_or_len is_comma (digits ++ 44 ∷ rest) + 1) word) (sym (append_assoc digits (44 ∷ []) rest)) ∙
    drop_at (digits ++ 44 ∷ []) rest _ (length-append digits (44 ∷ []) ∙ ap (λ n. n + 1) (sym (comma_behind digits rest all)))

-- two places with a comma between them, and then the word's end
pub cell_read : (line behind behind' rest : List ℕ) (x y : ℕ) → BeginsWithPlace line x behind → behind ≡ 44 ∷ behind' → BeginsWithPlace behind' y rest → ends_word rest ≡ true → BeginsWithCell line (point x y) rest
cell_read line behind behind' rest x y column comma row end =
    let (xs, at_x, all_x, is_x) = column in
    let (ys, at_y, all_y, is_y) = row in
    let word : List ℕ = xs ++ 44 ∷ ys in
    let split : line ≡ word ++ rest = at_x ∙ ap (λ r. xs ++ r) (comma ∙ ap (λ r. 44 ∷ r) at_y) ∙ sym (append_assoc xs (44 ∷ ys) rest) in
    let some : 0 < length word = omega (arith, length-append xs (44 ∷ ys)) in
    let all : list_all is_in_word (ys ++ []) ≡ true = digits_in_word ys [] all_y refl in
    let ys_in_word : list_all is_in_word ys ≡ true = rw append-nil at all in
    let words : words_of (word ++ rest) ≡ word ∷ words_of rest = word_ends word rest some (digits_in_word xs (44 ∷ ys) all_x ys_in_word) end in
    (word, ap words_of split ∙ words, rw (before_comma xs ys all_x, after_comma xs ys all_x, is_x, is_y) refl)
