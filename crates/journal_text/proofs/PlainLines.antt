-- How lines of plain words stand in a text: each ends at the first line feed, and tells its words.
use Rattle.std.proofs.Common.{◌≡◌, ◌<◌, ◌≤◌, ℕ, suc, zero, Bool, true, not, ◌&&◌, ◌==◌, List, [], ◌∷◌, ◌++◌, length, codes, nat_lt, refl, ap, sym, ◌∙◌, subst, arith, get_or, take, drop, take-append-drop, append_assoc, append-nil, length-append}
use Rattle.std.proofs.Math.Seq.{drop-cons}
use Rattle.std.proofs.lemmas.Bool.{ne_eqb, ltb-true, and_parts}
use Rattle.std.proofs.lemmas.List.{append_cancel_right}
use Rattle.std.proofs.lemmas.List.Folds.{list_all-append}
use Rattle.std.specs.List.{list_all, join_with_byte}
use Rattle.desk_report.specs.LineText.{line_text}
use Rattle.bench_reader.specs.Words.{is_in_word, words_of}
use Rattle.bench_reader.proofs.WordLemmas.{word_ends}
use Rattle.journal_text.specs.Lines.{text_of}
use Rattle.journal_text.proofs.PlainWords.{is_clear, is_plain, are_plain, is_one_line}

one-line-clear : (word : List ℕ) → list_all is_clear word ≡ true → is_one_line word ≡ true
one-line-clear [] clear = refl
one-line-clear (byte ∷ word) clear =
    let parts = and_parts (is_clear byte) (list_all is_clear word) clear in
    let above : 32 < byte = ltb-true 32 byte parts.0 in
    rw (ne_eqb byte 10 (omega arith), one-line-clear word parts.1) refl

in-word-clear : (word : List ℕ) → list_all is_clear word ≡ true → list_all is_in_word word ≡ true
in-word-clear [] clear = refl
in-word-clear (byte ∷ word) clear =
    let parts = and_parts (is_clear byte) (list_all is_clear word) clear in
    let above : 32 < byte = ltb-true 32 byte parts.0 in
    rw (ne_eqb byte 32 (omega arith), ne_eqb byte 9 (omega arith), ne_eqb byte 13 (omega arith), in-word-clear word parts.1) refl

-- plain words between spaces hold no line feed
pub one-line-join : (words : List (List ℕ)) → are_plain words ≡ true → is_one_line (join_with_byte 32 words) ≡ true
one-line-join [] plain = refl
one-line-join (word ∷ []) plain =
    let parts = and_parts (is_plain word) true plain in
    one-line-clear word (and_parts (nat_lt 0 (length word)) (list_all is_clear word) parts.0).1
one-line-join (word ∷ next ∷ words) plain =
    let parts = and_parts (is_plain word) (are_plain (next ∷ words)) plain in
    let first : is_one_line word ≡ true = one-line-clear word (and_parts (nat_lt 0 (length word)) (list_all is_clear word) parts.0).1 in
    list_all-append (λ (byte : ℕ). not (byte == 10)) word (32 ∷ join_with_byte 32 (next ∷ words)) ∙ rw (first, one-line-join (next ∷ words) parts.1) refl

-- plain words between spaces are the words of their line
pub words_of-join : (words : List (List ℕ)) → are_plain words ≡ true → words_of (join_with_byte 32 words) ≡ words
words_of-join [] plain = refl
words_of-join (word ∷ []) plain =
    let parts = and_parts (is_plain word) true plain in
    let bytes = and_parts (nat_lt 0 (length word)) (list_all is_clear word) parts.0 in
    ap words_of (sym (append-nil word)) ∙ word_ends word [] (ltb-true 0 (length word) bytes.0) (in-word-clear word bytes.1) refl
words_of-join (word ∷ next ∷ words) plain =
    let parts = and_parts (is_plain word) (are_plain (next ∷ words)) plain in
    let bytes = and_parts (nat_lt 0 (length word)) (list_all is_clear word) parts.0 in
    word_ends word (32 ∷ join_with_byte 32 (next ∷ words)) (ltb-true 0 (length word) bytes.0) (in-word-clear word bytes.1) refl ∙ ap (λ (rest : List (List ℕ)). word ∷ rest) (words_of-join (next ∷ words) parts.1)

-- two texts that are a line and a rest are so in one way
pub record SameSplit (a b x y : List ℕ) : Type 0 where
  pub line : a ≡ b
  pub rest : x ≡ y

abbrev first_of : List ℕ → ℕ
first_of [] = 0
first_of (x ∷ xs) = x

abbrev others_of : List ℕ → List ℕ
others_of [] = []
others_of (x ∷ xs) = xs

pub feed-split : (a b x y : List ℕ) → is_one_line a ≡ true → is_one_line b ≡ true → a ++ 10 ∷ x ≡ b ++ 10 ∷ y → SameSplit a b x y
feed-split [] [] x y one other same = record { line = refl; rest = ap others_of same }
feed-split [] (byte ∷ b) x y one other same =
    let feed : 10 ≡ byte = ap first_of same in
    absurd (subst (λ n. (not (n == 10) && is_one_line b) ≡ true → ⊥) feed (λ h. cc) other)
feed-split (byte ∷ a) [] x y one other same =
    let feed : 10 ≡ byte = sym (ap first_of same) in
    absurd (subst (λ n. (not (n == 10) && is_one_line a) ≡ true → ⊥) feed (λ h. cc) one)
feed-split (byte ∷ a) (next ∷ b) x y one other same =
    let parts = and_parts (not (byte == 10)) (is_one_line a) one in
    let others = and_parts (not (next == 10)) (is_one_line b) other in
    let rest = feed-split a b x y parts.1 others.1 (ap others_of same) in
    let first : byte ≡ next = ap first_of same in
    record { line = ap (λ n. n ∷ a) first ∙ ap (λ (l : List ℕ). next ∷ l) rest.line; rest = rest.rest }

-- two texts that begin with lines of plain words begin with the same one
pub record SameLine (a b : List (List ℕ)) (x y : List ℕ) : Type 0 where
  pub words : a ≡ b
  pub rest : x ≡ y

pub line-split : (a b : List (List ℕ)) (x y : List ℕ) → are_plain a ≡ true → are_plain b ≡ true → line_text a ++ x ≡ line_text b ++ y → SameLine a b x y
line-split a b x y one other same =
    let split = feed-split (join_with_byte 32 a) (join_with_byte 32 b) x y (one-line-join a one) (one-line-join b other)
    (sym (append_assoc (join_with_byte 32 a) (codes "\n") x) ∙ same ∙ append_assoc (join_with_byte 32 b) (codes "\n") y) in
    record { words = sym (words_of-join a one) ∙ ap words_of split.line ∙ words_of-join b other; rest = split.rest }

-- a line of plain words without its line feed
pub line-words_of : (words : List (List ℕ)) (line : List ℕ) → are_plain words ≡ true → line_text words ≡ line ++ codes "\n" → words_of line ≡ words
line-words_of words line plain same =
    ap words_of (sym (append_cancel_right (join_with_byte 32 words) line (codes "\n") same)) ∙ words_of-join words plain

-- all lines are of plain words
abbrev pub are_lines : List (List (List ℕ)) → Bool
are_lines lines = list_all are_plain lines

-- a text that begins with some lines, and with at least as many others: those begin with these
pub record Longer (few many : List (List (List ℕ))) (x y : List ℕ) : Type 0 where
  pub more : List (List (List ℕ))
  pub lines : many ≡ few ++ more
  pub rest : x ≡ text_of more ++ y

pub text-split : (few many : List (List (List ℕ))) (x y : List ℕ) → are_lines few ≡ true → are_lines many ≡ true → length few ≤ length many → text_of few ++ x ≡ text_of many ++ y → Longer few many x y
text-split [] many x y one other within same = record { more = many; lines = refl; rest = same }
text-split (a ∷ few) [] x y one other within same = absurd (omega arith)
text-split (a ∷ few) (b ∷ many) x y one other within same =
    let parts = and_parts (are_plain a) (are_lines few) one in
    let others = and_parts (are_plain b) (are_lines many) other in
    let first = line-split a b (text_of few ++ x) (text_of many ++ y) parts.0 others.0
    (sym (append_assoc (line_text a) (text_of few) x) ∙ same ∙ append_assoc (line_text b) (text_of many) y) in
    let later = text-split few many x y parts.1 others.1 (omega arith) first.rest in
    record {
      more = later.more;
      lines = ap (λ (l : List (List ℕ)). l ∷ many) (sym first.words) ∙ ap (λ (l : List (List (List ℕ))). a ∷ l) later.lines;
      rest = later.rest;
    }

-- the line feed behind a line
feed-at : (line rest : List ℕ) → get_or (line ++ 10 ∷ rest) (length line) 0 ≡ 10
feed-at [] rest = refl
feed-at (byte ∷ line) rest = feed-at line rest

-- a text with no line feed has no line that ends
pub no-feed : (text : List ℕ) → ((k : ℕ) → k < length text → get_or text k 0 ≡ 10 → ⊥) → (line rest : List ℕ) → text ≡ line ++ 10 ∷ rest → ⊥
no-feed text none line rest same =
    let within : length line < length text = omega (arith, ap length same, length-append line (10 ∷ rest)) in
    none (length line) within (ap (λ (t : List ℕ). get_or t (length line) 0) same ∙ feed-at line rest)

-- what stands before the first line feed has none
pub one-line-front : (text : List ℕ) (end : ℕ) → end ≤ length text → ((k : ℕ) → k < end → get_or text k 0 ≡ 10 → ⊥) → is_one_line (take end text) ≡ true
one-line-front text zero within none = refl
one-line-front [] (suc end) within none = absurd (omega arith)
one-line-front (byte ∷ text) (suc end) within none = rw (ne_eqb byte 10 (none 0 (omega arith)), one-line-front text end (omega arith) (λ k low. none (suc k) (omega arith))) refl

-- a text, split at a line feed
pub feed-parts : (text : List ℕ) (end : ℕ) → end < length text → get_or text end 0 ≡ 10 → text ≡ take end text ++ 10 ∷ drop (suc end) text
feed-parts text end within feed =
    sym (take-append-drop end text) ∙ ap (λ (rest : List ℕ). take end text ++ rest) (drop-cons text end 0 within ∙ ap (λ (n : ℕ). n ∷ drop (suc end) text) feed)
