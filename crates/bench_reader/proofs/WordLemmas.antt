-- How the first word of a line is found, and how a number is read digit by digit.
use Rattle.std.proofs.lemmas.Bool.Decides.{nat_tests}
use Rattle.std.proofs.lemmas.Grind.{common_steps}
use Rattle.std.proofs.Common.{◌≡◌, ℕ, zero, suc, ◌+◌, ◌*◌, ◌<◌, ◌≤◌, Bool, true, false, ◌&&◌, List, [], ◌∷◌, ◌++◌, length, get_or, take, drop, refl, ap, sym, ◌∙◌, arith, not, length-take, take-append-drop, None, le-ltb, ◌^◌}
use Rattle.std.specs.List.{list_all}
use Rattle.std.specs.Char.{digit_value}
use Rattle.std.proofs.Math.Seq.{drop-cons}
use Rattle.std.specs.Str.Parse.{digits_value, digits_value_after}
use Rattle.bench_reader.specs.Lines.{join_first, is_blank}
use Rattle.bench_reader.specs.Words.{ends_word, is_in_word, words_of, number_of}

in_word : (b rest : Bool) → (not b && rest) ≡ true → (b ≡ false) × (rest ≡ true)
in_word true rest h = absurd (cc)
in_word false rest h = (refl, h)

words_join : (byte next : ℕ) (line : List ℕ) → is_blank byte ≡ false → is_blank next ≡ false → words_of (byte ∷ next ∷ line) ≡ join_first byte (words_of (next ∷ line))
words_join byte next line first second = rw (first, second) refl

-- bytes of a word, and then the word's end
pub word_ends : (word rest : List ℕ) → 0 < length word → list_all is_in_word word ≡ true → ends_word rest ≡ true → words_of (word ++ rest) ≡ word ∷ words_of rest
word_ends [] rest some word end = absurd (omega arith)
word_ends (byte ∷ []) rest some all end = rw ((in_word (is_blank byte) true all).0, end) refl
word_ends (byte ∷ next ∷ word) rest some all end =
    let first : (is_blank byte ≡ false) × (list_all is_in_word (next ∷ word) ≡ true) = in_word (is_blank byte) (list_all is_in_word (next ∷ word)) all in
    let second : (is_blank next ≡ false) × (list_all is_in_word word ≡ true) = in_word (is_blank next) (list_all is_in_word word) first.1 in
    words_join byte next (word ++ rest) first.0 second.0 ∙ ap (join_first byte) (word_ends (next ∷ word) rest (omega arith) first.1 end)

-- the first word of a line that begins with one
pub first_word : (line : List ℕ) (end : ℕ) → 0 < length line → end ≤ length line → list_all is_in_word (take end line) ≡ true → ends_word (drop end line) ≡ true → ends_word line ≡ false → words_of line ≡ take end line ∷ words_of (drop end line)
first_word line zero some within word behind begins = absurd (cc)
first_word line (suc end) some within word behind begins =
    ap words_of (sym (take-append-drop (suc end) line)) ∙ word_ends (take (suc end) line) (drop (suc end) line) (omega (arith, length-take (suc end) line)) word behind

-- a number does not fall by further digits
pub digits_value_after-ge : (n : ℕ) (digits : List ℕ) → n ≤ digits_value_after 10 n digits
digits_value_after-ge n [] = omega arith
digits_value_after-ge n (digit ∷ digits) = omega (arith, digits_value_after-ge (n * 10 + digit_value digit) digits)

not_last : (a b : Bool) → (a && b && false) ≡ false
not_last a b = elim a as (λ a. (a && b && false) ≡ false) [ true ↦ elim b as (λ b. (true && b && false) ≡ false) [ true ↦ refl | false ↦ refl ] | false ↦ refl ]

-- a word of too great a value is no number
pub number_of-over : (word : List ℕ) → 2 ^ 32 ≤ digits_value 10 word → number_of word ≡ None
number_of-over word over = grind (arith, nat_tests, common_steps, le-ltb, not_last)

-- a number that is too great at one of its digits
pub number_of-over_at : (word : List ℕ) (i number : ℕ) → i < length word → digits_value_after 10 number (drop i word) ≡ digits_value 10 word → 2 ^ 32 ≤ number * 10 + digit_value (get_or word i 0) → number_of word ≡ None
number_of-over_at word i number within value over = grind (arith, nat_tests, common_steps, drop-cons, digits_value_after-ge, number_of-over)
