-- The words that are written of a journal are plain: not empty, and with no blank and no line feed. Plain words stand between single spaces as they are.
use Rattle.std.proofs.Common.{◌≡◌, ◌<◌, ◌^◌, ℕ, Bool, true, not, ◌&&◌, ◌==◌, List, [], ◌∷◌, ◌++◌, length, map, codes, decimal, nat_lt, refl, ◌∙◌, arith, lt-ltb}
use Rattle.std.proofs.lemmas.Bool.{and_parts}
use Rattle.std.proofs.lemmas.List.Folds.{list_all-append}
use Rattle.std.proofs.lemmas.List.Elements.{All-head, All-tail}
use Rattle.std.proofs.lemmas.Fmt.{decimal_is_IsNumeral}
use Rattle.std.proofs.lemmas.Str.Parse.{digit_from_value}
use Rattle.std.specs.List.{All, list_all}
use Rattle.std.specs.Int.{IsInRange}
use Rattle.std.specs.Str.Parse.{AllDigits}
use Rattle.grid_cells.specs.Cell.{Point}
use Rattle.plan_table.specs.declared.tracks.Mode.{Mode}
use Rattle.plan_table.specs.declared.tracks.Mode.TheVariants.{Stay, Disappear}
use Rattle.scene_edits.specs.declared.changes.Thing.{Thing}
use Rattle.scene_edits.specs.declared.changes.Thing.TheVariants as things
use Rattle.scene_edits.specs.declared.edits.Edit.{Edit}
use Rattle.scene_edits.specs.declared.edits.Edit.TheVariants.{Add, Drop, Goal, Path, Tail, Open, Close}
use Rattle.desk_report.specs.LineText.{cell_text}
use Rattle.journal_text.specs.Ranges.{IsCell, IsThing, IsEdit, AreNumbers}
use Rattle.journal_text.specs.Lines.{watch_words, edit_words, entry_words, mode_words, end_words}

-- a byte above the space
abbrev pub is_clear : ℕ → Bool
is_clear byte = nat_lt 32 byte

-- a word of such bytes, that is not empty
abbrev pub is_plain : List ℕ → Bool
is_plain word = nat_lt 0 (length word) && list_all is_clear word

abbrev pub are_plain : List (List ℕ) → Bool
are_plain words = list_all is_plain words

-- no line feed
abbrev pub is_one_line : List ℕ → Bool
is_one_line line = list_all (λ byte. not (byte == 10)) line

clear-digits : (digits : List ℕ) → AllDigits 10 digits → list_all is_clear digits ≡ true
clear-digits [] all = refl
clear-digits (digit ∷ digits) all =
    let range : IsInRange 48 57 digit = digit_from_value digit all.0 in
    rw (lt-ltb 32 digit (omega arith), clear-digits digits all.1) refl

pub clear-decimal : (n : ℕ) → n < 2 ^ 64 → list_all is_clear (decimal n) ≡ true
clear-decimal n small = clear-digits (decimal n) (decimal_is_IsNumeral n small).0.1

pub plain-decimal : (n : ℕ) → n < 2 ^ 64 → is_plain (decimal n) ≡ true
plain-decimal n small = rw (lt-ltb 0 (length (decimal n)) (decimal_is_IsNumeral n small).0.0, clear-decimal n small) refl

some-front : (xs ys : List ℕ) → nat_lt 0 (length xs) ≡ true → nat_lt 0 (length (xs ++ ys)) ≡ true
some-front [] ys some = absurd (cc)
some-front (x ∷ xs) ys some = lt-ltb 0 (length (x ∷ (xs ++ ys))) (omega arith)

pub plain-cell : (cell : Point) → IsCell cell → is_plain (cell_text cell) ≡ true
plain-cell cell lawful =
    let x : is_plain (decimal cell.x) ≡ true = plain-decimal cell.x (omega (arith, lawful.column)) in
    let parts = and_parts (nat_lt 0 (length (decimal cell.x))) (list_all is_clear (decimal cell.x)) x in
    let some : nat_lt 0 (length (cell_text cell)) ≡ true = some-front (decimal cell.x ++ codes ",") (decimal cell.y) (some-front (decimal cell.x) (codes ",") parts.0) in
    let clear : list_all is_clear (cell_text cell) ≡ true =
    list_all-append is_clear (decimal cell.x ++ codes ",") (decimal cell.y)
    ∙ rw (list_all-append is_clear (decimal cell.x) (codes ","), parts.1, clear-decimal cell.y (omega (arith, lawful.row))) refl in
    rw (some, clear) refl

pub plain-cells : (cells : List Point) → All IsCell cells → are_plain (map cell_text cells) ≡ true
plain-cells [] lawful = refl
plain-cells (cell ∷ cells) lawful = rw (plain-cell cell (All-head IsCell cell cells lawful), plain-cells cells (All-tail IsCell cell cells lawful)) refl

pub plain-watch : (thing : Thing) → IsThing thing → are_plain (watch_words thing) ≡ true
plain-watch (things.Agent agent) lawful = rw (plain-decimal agent (omega arith)) refl
plain-watch (things.Cell cell) lawful = rw (plain-cell cell lawful) refl
plain-watch things.Map lawful = refl

pub plain-edit : (edit : Edit) → IsEdit edit → are_plain (edit_words edit) ≡ true
plain-edit (Add agent start goal) lawful = rw (plain-decimal agent (omega (arith, lawful.0)), plain-cell start lawful.1, plain-cell goal lawful.2) refl
plain-edit (Drop agent) lawful = rw (plain-decimal agent (omega arith)) refl
plain-edit (Goal agent goal) lawful = rw (plain-decimal agent (omega (arith, lawful.0)), plain-cell goal lawful.1) refl
plain-edit (Path agent cells) lawful = rw (plain-decimal agent (omega (arith, lawful.0)), plain-cells cells lawful.1) refl
plain-edit (Tail agent from cells) lawful = rw (plain-decimal agent (omega (arith, lawful.0)), plain-decimal from (omega (arith, lawful.1)), plain-cells cells lawful.2) refl
plain-edit (Open cell) lawful = rw (plain-cell cell lawful) refl
plain-edit (Close cell) lawful = rw (plain-cell cell lawful) refl

pub plain-entry : (planner base watches edits : ℕ) → AreNumbers planner base watches edits → are_plain (entry_words planner base watches edits) ≡ true
plain-entry planner base watches edits lawful =
    rw (plain-decimal planner (omega (arith, lawful.planner_most)), plain-decimal base lawful.base_most, plain-decimal watches (omega (arith, lawful.watches_most)), plain-decimal edits (omega (arith, lawful.edits_most))) refl

pub plain-mode : (mode : Mode) → are_plain (mode_words mode) ≡ true
plain-mode Stay = refl
plain-mode Disappear = refl

pub plain-end : (count : ℕ) → count < 2 ^ 64 → are_plain (end_words count) ≡ true
plain-end count small = rw (plain-decimal count small) refl
