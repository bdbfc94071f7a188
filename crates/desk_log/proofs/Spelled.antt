-- What is spelled as it is written.
use Rattle.std.proofs.Common.{◌≡◌, ◌<◌, ◌≤◌, ◌++◌, ◌∷◌, [], decimal, codes, ℕ, List, ◌+◌, ◌-◌, ◌*◌, ◌/◌, ◌%◌, ◌^◌, map, refl, sym, ap, ◌∙◌, arith, append_assoc, append-nil}
use Rattle.std.specs.List.{All, join_with_byte, flat_map}
use Rattle.std.proofs.lemmas.Fmt.{decimal_digit, decimal_step}
use Rattle.std.proofs.lemmas.List.{map-append}
use Rattle.std.proofs.lemmas.Grind.{flat_map-append}
use Rattle.grid_cells.specs.Cell.{Point}
use Rattle.grid_cells.specs.declared.sizes.TheConstants.{MOST_SIDE}
use Rattle.desk_report.specs.LineText.{line_text, cell_text}
use Rattle.journal_text.specs.Ranges.{IsCell}
use Rattle.desk_log.specs.Spaced.{spaced}

pub one_digit : (text : List ℕ) (n : ℕ) (rest : List ℕ) → n < 10 → text ≡ (48 + n) ∷ rest → text ≡ decimal n ++ rest
one_digit text n rest small is = is ∙ sym (ap (λ (t : List ℕ). t ++ rest) (decimal_digit n small))

pub more_digits : (value n : ℕ) (text rest : List ℕ) → 0 < value → value < 10 ^ 17 → n < 10 → text ≡ (48 + n) ∷ rest → decimal value ++ text ≡ decimal (value * 10 + n) ++ rest
more_digits value n text rest some small single is =
    let top : (value * 10 + n) / 10 ≡ value = omega arith in
    let last : (value * 10 + n) % 10 ≡ n = omega arith in
    let step = rw (top, last) at (decimal_step (value * 10 + n) (omega arith) (omega arith)) in
    ap (λ (t : List ℕ). decimal value ++ t) is ∙ sym (ap (λ (t : List ℕ). t ++ rest) step ∙ append_assoc (decimal value) ((48 + n) ∷ []) rest)

pub cell_is : (text word comma after rest : List ℕ) (x y : ℕ) → x < MOST_SIDE → y < MOST_SIDE → text ≡ 32 ∷ word → word ≡ decimal x ++ comma → comma ≡ 44 ∷ after → after ≡ decimal y ++ rest
    → (cell : Point) × IsCell cell × (text ≡ 32 ∷ (cell_text cell ++ rest))
cell_is text word comma after rest x y column row begins is then last = (
  record { x = x; y = y },
  record { column = column; row = row },
  begins ∙ ap (λ (t : List ℕ). 32 ∷ t) (is ∙ ap (λ (t : List ℕ). decimal x ++ t) (then ∙ ap (λ (t : List ℕ). 44 ∷ t) last)
      ∙ sym (append_assoc (decimal x ++ codes ",") (decimal y) rest ∙ append_assoc (decimal x) (codes ",") (decimal y ++ rest))),
)

-- a line: its name, and its words behind that
pub line_is : (name : List ℕ) (words : List (List ℕ)) (rest : List ℕ) → line_text (name ∷ words) ++ rest ≡ name ++ spaced words (10 ∷ rest)
line_is name [] rest = append_assoc name (codes "\n") rest
line_is name (word ∷ words) rest =
    let joined = join_with_byte 32 (word ∷ words) in
    ap (λ (t : List ℕ). t ++ rest) (append_assoc name (32 ∷ joined) (codes "\n")) ∙ append_assoc name (32 ∷ (joined ++ codes "\n")) rest
    ∙ ap (λ (t : List ℕ). name ++ (32 ∷ t)) (line_is word words rest)

spaced-push : (words : List (List ℕ)) (word rest : List ℕ) → spaced words (32 ∷ (word ++ rest)) ≡ spaced (words ++ word ∷ []) rest
spaced-push [] word rest = refl
spaced-push (first ∷ words) word rest = ap (λ (t : List ℕ). 32 ∷ (first ++ t)) (spaced-push words word rest)

-- one more cell
pub one-more-cell : (cells : List Point) (cell : Point) (rest : List ℕ) → spaced (map cell_text cells) (32 ∷ (cell_text cell ++ rest)) ≡ spaced (map cell_text (cells ++ cell ∷ [])) rest
one-more-cell cells cell rest =
    spaced-push (map cell_text cells) (cell_text cell) rest ∙ ap (λ (ws : List (List ℕ)). spaced ws rest) (sym (map-append cell_text cells (cell ∷ [])))

-- one more of what has a text
pub one-more-text : {X : Type 0} (f : X → List ℕ) (list : List X) (item : X) (rest : List ℕ) → flat_map f list ++ (f item ++ rest) ≡ flat_map f (list ++ item ∷ []) ++ rest
one-more-text f list item rest =
    sym (append_assoc (flat_map f list) (f item) rest)
    ∙ ap (λ (t : List ℕ). t ++ rest) (sym (flat_map-append f list (item ∷ []) ∙ ap (λ (t : List ℕ). flat_map f list ++ t) (append-nil (f item))))
