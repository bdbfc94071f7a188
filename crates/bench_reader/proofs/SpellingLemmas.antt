-- What is written, and that it reads as the map.
use Rattle.std.proofs.lemmas.Bool.Decides.{nat_tests}
use Rattle.std.proofs.lemmas.Grind.{common_steps}
use Rattle.std.proofs.lemmas.Bool.{and_parts, not-true}
use Rattle.std.proofs.lemmas.Option.{slice_get-get_or}
use Rattle.std.proofs.lemmas.List.{nil_from_length}
use Rattle.std.proofs.Common.{◌≡◌, ◌<◌, ◌^◌, ℕ, zero, suc, ◌+◌, ◌-◌, ◌*◌, Bool, true, false, not, ◌==◌, Some, List, [], ◌∷◌, ◌++◌, length, get_or, take, drop, map, flat_map, codes, decimal, IsTrue, ◌↔◌, refl, ap, subst, sym, ◌∙◌, arith, rules, add-one, append_assoc, lt-ltb, zero-mul, suc-mul, mul_comm, one-mul, add-mul}
use Rattle.std.proofs.Math.Seq.{take-suc}
use Rattle.std.proofs.lemmas.Bool.{ne_eqb, le-leb}
use Rattle.std.proofs.lemmas.List.{map-append, append-nil, length-drop, length-take, length-map, get_or-drop, take-append-drop, drop-drop}
use Rattle.std.proofs.lemmas.List.Elements.{All-cons}
use Rattle.std.proofs.lemmas.Fmt.{decimal_is_IsNumeral}
use Rattle.std.proofs.lemmas.Str.Parse.{digit_from_value}
use Rattle.std.specs.List.{list_all}
use Rattle.std.specs.Str.{all_ascii_digits}
use Rattle.std.specs.Str.Parse.{AllDigits}
use Rattle.grid_cells.specs.Cell.{Point}
use Rattle.grid_cells.specs.Size.{Extent, IsSize, Holds}
use Rattle.grid_cells.specs.Grid.{Chart, IsOpen, flag_index}
use Rattle.bench_reader.specs.Lines.{join_first, lines_of, row_of}
use Rattle.bench_reader.specs.Words.{is_in_word, words_of, number_of}
use Rattle.bench_reader.specs.Letters.{state_of, AreRows}
use Rattle.bench_reader.specs.MapText.{labelled, HasSize, AreMapLines, IsMapText}
use Rattle.bench_reader.specs.MapSpelling.{letter_of, header_lines, row_lines, spelled, map_spelling}
use Rattle.bench_reader.proofs.WordLemmas.{word_ends}

-- one more letter is written
pub letter_written : (text more : List ℕ) (flags : List Bool) (k col : ℕ) (free : Bool) → k + col < length flags → more ≡ text ++ map letter_of (take col (drop k flags)) → free ≡ get_or flags (k + col) true → more ++ letter_of free ∷ [] ≡ text ++ map letter_of (take (col + 1) (drop k flags))
letter_written text more flags k col free within so_far same =
    let rest : List Bool = drop k flags in
    let inside : col < length rest = omega (arith, length-drop k flags) in
    let next : free ≡ get_or rest col true = same ∙ sym (get_or-drop k flags col true) in
    let row : take (col + 1) rest ≡ take col rest ++ free ∷ [] = ap (λ n. take n rest) (add-one col) ∙ take-suc rest col true inside ∙ ap (λ flag. take col rest ++ flag ∷ []) (sym next) in
    ap (λ more. more ++ letter_of free ∷ []) so_far
    ∙ append_assoc text (map letter_of (take col rest)) (letter_of free ∷ [])
    ∙ ap (λ tail. text ++ tail) (sym (ap (map letter_of) row ∙ map-append letter_of (take col rest) (free ∷ [])))

same_bool : (a b : Bool) → (a ≡ true → b ≡ true) → (b ≡ true → a ≡ true) → a ≡ b
same_bool true b there back = sym (there refl)
same_bool false true there back = back refl
same_bool false false there back = refl

-- whether a cell is open is its flag
pub flag_of : (grid : Chart) (cell : Point) (free : Bool) → Holds grid.size cell → flag_index grid.size cell < length grid.flags → (IsTrue free ↔ IsOpen grid cell) → free ≡ get_or grid.flags (flag_index grid.size cell) true
flag_of grid cell free held within answer = grind (arith, nat_tests, common_steps, slice_get-get_or, same_bool)

-- one more row is written
pub row_written : (text more whole : List ℕ) (flags : List Bool) (width height row : ℕ) → row < height → more ≡ text ++ (map letter_of (take width (drop (row * width) flags)) ++ 10 ∷ []) → text ++ spelled (row_lines width (height - row) (drop (row * width) flags)) ≡ whole → more ++ spelled (row_lines width (height - (row + 1)) (drop ((row + 1) * width) flags)) ≡ whole
row_written text more whole flags width height row within wrote so_far =
    let left : ℕ = height - (row + 1) in
    let rest : List Bool = drop (row * width) flags in
    let line : List ℕ = map letter_of (take width rest) ++ 10 ∷ [] in
    let tail : List ℕ = spelled (row_lines width left (drop ((row + 1) * width) flags)) in
    let count : height - row ≡ suc left = omega arith in
    let place : row * width + width ≡ (row + 1) * width = omega (arith, add-mul row 1 width, one-mul width) in
    let next : drop width rest ≡ drop ((row + 1) * width) flags = drop-drop width (row * width) flags ∙ ap (λ n. drop n flags) place in
    let split : spelled (row_lines width (height - row) rest) ≡ line ++ tail =
    ap (λ n. spelled (row_lines width n rest)) count ∙ ap (λ flags. line ++ spelled (row_lines width left flags)) next in
    ap (λ more. more ++ tail) wrote ∙ append_assoc text line tail ∙ ap (λ rest. text ++ rest) (sym split) ∙ so_far

-- without a line feed
abbrev plain : List ℕ → Bool
plain line = list_all (λ byte. not (byte == 10)) line

lines-line : (line rest : List ℕ) → plain line ≡ true → lines_of (line ++ 10 ∷ rest) ≡ line ∷ lines_of rest
lines-line [] rest clean = refl
lines-line (byte ∷ line) rest clean =
    let parts = and_parts (not (byte == 10)) (plain line) clean in
    rw (not-true (byte == 10) parts.0) (ap (join_first byte) (lines-line line rest parts.1))

lines-spelled : (lines : List (List ℕ)) → list_all plain lines ≡ true → lines_of (spelled lines) ≡ lines
lines-spelled [] clean = refl
lines-spelled (line ∷ lines) clean =
    let parts = and_parts (plain line) (list_all plain lines) clean in
    ap lines_of (append_assoc line (10 ∷ []) (spelled lines)) ∙ lines-line line (spelled lines) parts.0 ∙ ap (λ lines. line ∷ lines) (lines-spelled lines parts.1)

plain-digits : (digits : List ℕ) → AllDigits 10 digits → plain digits ≡ true
plain-digits [] all = refl
plain-digits (digit ∷ digits) all = grind (arith, nat_tests, common_steps, plain-digits digits all.1, digit_from_value, ne_eqb)

word-digits : (digits : List ℕ) → AllDigits 10 digits → list_all is_in_word digits ≡ true
word-digits [] all = refl
word-digits (digit ∷ digits) all = grind (arith, nat_tests, common_steps, word-digits digits all.1, digit_from_value, ne_eqb)

ascii-digits : (digits : List ℕ) → AllDigits 10 digits → all_ascii_digits digits ≡ true
ascii-digits [] all = refl
ascii-digits (digit ∷ digits) all = grind (arith, nat_tests, common_steps, ascii-digits digits all.1, digit_from_value, le-leb)

number_of-decimal : (n : ℕ) → n < 2 ^ 32 → number_of (decimal n) ≡ Some n
number_of-decimal n small = grind (arith, nat_tests, common_steps, decimal_is_IsNumeral, lt-ltb, ascii-digits)

-- a label, a space and a number are two words
words-label : (label : List ℕ) (n : ℕ) → 0 < length label → list_all is_in_word label ≡ true → n < 2 ^ 32 → words_of (label ++ 32 ∷ decimal n) ≡ label ∷ decimal n ∷ []
words-label label n some word small =
    let is = decimal_is_IsNumeral n (omega arith) in
    let last : words_of (decimal n) ≡ decimal n ∷ [] = ap words_of (sym (append-nil (decimal n))) ∙ word_ends (decimal n) [] is.0.0 (word-digits (decimal n) is.0.1) refl in
    word_ends label (32 ∷ decimal n) some word refl ∙ ap (λ words. label ∷ words) last

row_of-letters : (flags : List Bool) → row_of (map letter_of flags) ≡ map letter_of flags
row_of-letters [] = refl
row_of-letters (true ∷ flags) = ap (λ row. 46 ∷ row) (row_of-letters flags)
row_of-letters (false ∷ flags) = ap (λ row. 64 ∷ row) (row_of-letters flags)

states-letters : (flags : List Bool) → map state_of (map letter_of flags) ≡ map Some flags
states-letters [] = refl
states-letters (true ∷ flags) = ap (λ states. Some true ∷ states) (states-letters flags)
states-letters (false ∷ flags) = ap (λ states. Some false ∷ states) (states-letters flags)

plain-letters : (flags : List Bool) → plain (map letter_of flags) ≡ true
plain-letters [] = refl
plain-letters (true ∷ flags) = plain-letters flags
plain-letters (false ∷ flags) = plain-letters flags

plain-rows : (width height : ℕ) (flags : List Bool) → list_all plain (row_lines width height flags) ≡ true
plain-rows width zero flags = refl
plain-rows width (suc height) flags = rw (plain-letters (take width flags), plain-rows width height (drop width flags)) refl

length-rows : (width height : ℕ) (flags : List Bool) → length (row_lines width height flags) ≡ height
length-rows width zero flags = refl
length-rows width (suc height) flags = ap suc (length-rows width height (drop width flags))

-- the rows that are written read as the flags
rows-read : (width height : ℕ) (flags : List Bool) → length flags ≡ height * width → AreRows width (row_lines width height flags) flags
rows-read width zero flags count = rw (nil_from_length flags (count ∙ zero-mul width)) (record { widths = search rules; letters = refl })
rows-read width (suc height) flags count =
    let total : length flags ≡ height * width + width = count ∙ suc-mul height width in
    let below = rows-read width height (drop width flags) (omega (arith, length-drop width flags, total)) in
    let wide : length (row_of (map letter_of (take width flags))) ≡ width =
    ap length (row_of-letters (take width flags)) ∙ length-map (take width flags) letter_of ∙ omega (arith, length-take width flags, total) in
    let rest : List ℕ = flat_map row_of (row_lines width height (drop width flags)) in
    record {
      widths = All-cons (λ row. length (row_of row) ≡ width) (map letter_of (take width flags)) (row_lines width height (drop width flags)) wide below.widths;
      letters =
          ap (λ row. map state_of (row ++ rest)) (row_of-letters (take width flags))
          ∙ map-append state_of (map letter_of (take width flags)) rest
          ∙ ap (λ states. states ++ map state_of rest) (states-letters (take width flags))
          ∙ ap (λ states. map Some (take width flags) ++ states) below.letters
          ∙ sym (map-append Some (take width flags) (drop width flags))
          ∙ ap (map Some) (take-append-drop width flags);
    }

header_read : (size : Extent) (rows : List (List ℕ)) → IsSize size.width size.height → HasSize (header_lines size ++ rows) size
header_read size rows lawful = record {
  header = record {
    title = refl;
    high = ap (labelled (codes "height")) (words-label (codes "height") size.height (omega arith) refl (omega (arith, lawful.height_most))) ∙ number_of-decimal size.height (omega (arith, lawful.height_most));
    wide = ap (labelled (codes "width")) (words-label (codes "width") size.width (omega arith) refl (omega (arith, lawful.width_most))) ∙ number_of-decimal size.width (omega (arith, lawful.width_most));
    marker = refl;
  };
  lawful = lawful;
}

-- what is written of a map is a text of that map
pub map_reads : (grid : Chart) → IsSize grid.size.width grid.size.height → length grid.flags ≡ grid.size.width * grid.size.height → IsMapText (map_spelling grid) grid
map_reads grid lawful count =
    let size : Extent = grid.size in
    let rows : List (List ℕ) = row_lines size.width size.height grid.flags in
    let high = decimal_is_IsNumeral size.height (omega (arith, lawful.height_most)) in
    let wide = decimal_is_IsNumeral size.width (omega (arith, lawful.width_most)) in
    let clean : list_all plain (header_lines size ++ rows) ≡ true =
    rw (plain-digits (decimal size.height) high.0.1, plain-digits (decimal size.width) wide.0.1, plain-rows size.width size.height grid.flags) refl in
    let read : AreMapLines (header_lines size ++ rows) grid = record {
      size = header_read size rows lawful;
      tail = [];
      rows = record {
        rows = rows;
        split = sym (append-nil rows);
        high = length-rows size.width size.height grid.flags;
        good = rows-read size.width size.height grid.flags (count ∙ mul_comm size.width size.height);
      };
      blank = refl;
    } in
    subst (λ lines. AreMapLines lines grid) (sym (lines-spelled (header_lines size ++ rows) clean)) read
