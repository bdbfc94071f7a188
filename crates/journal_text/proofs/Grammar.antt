-- The lines that are written of a journal stand, in the grammar of session lines, for what they were written of.
use Rattle.std.proofs.Common.{◌≡◌, ◌<◌, ◌≤◌, ◌^◌, ℕ, ◌+◌, true, Some, Ok, List, [], ◌∷◌, ◌++◌, length, map, take, drop, codes, decimal, refl, ap, sym, ◌∙◌, arith, lt-ltb, le-leb, append_assoc}
use Rattle.std.proofs.Math.Seq.{take-append_seam, drop-append-add}
use Rattle.std.proofs.lemmas.Bool.{ne_eqb}
use Rattle.std.proofs.lemmas.List.Elements.{All-head, All-tail}
use Rattle.std.proofs.lemmas.Fmt.{decimal_is_IsNumeral}
use Rattle.std.proofs.lemmas.Str.Parse.{digit_from_value}
use Rattle.std.specs.List.{All, position_or_len, before_first, after_first}
use Rattle.std.specs.Int.{IsInRange}
use Rattle.std.specs.Str.{all_ascii_digits}
use Rattle.std.specs.Str.Parse.{AllDigits}
use Rattle.grid_cells.specs.Cell.{Point}
use Rattle.grid_cells.specs.declared.numbers.TheConstants.{MOST_AGENT}
use Rattle.grid_cells.specs.declared.sizes.TheConstants.{MOST_SIDE}
use Rattle.scene_edits.specs.declared.changes.Thing.{Thing}
use Rattle.scene_edits.specs.declared.changes.Thing.TheVariants as things
use Rattle.scene_edits.specs.declared.edits.Edit.{Edit}
use Rattle.scene_edits.specs.declared.edits.Edit.TheVariants.{Add, Drop, Goal, Path, Tail, Open, Close}
use Rattle.desk_report.specs.LineText.{cell_text}
use Rattle.bench_reader.specs.Words.{number_of}
use Rattle.session_lines.specs.Values.{agent_of, place_of, cell_of, is_comma}
use Rattle.session_lines.specs.Cells.{cells_of}
use Rattle.session_lines.specs.Requests.{request_of_words}
use Rattle.session_lines.specs.declared.requests.Request.TheVariants as request
use Rattle.journal_text.specs.Ranges.{IsCell, IsThing, IsEdit}
use Rattle.journal_text.specs.Lines.{watch_words, edit_words}

ascii-digits : (digits : List ℕ) → AllDigits 10 digits → all_ascii_digits digits ≡ true
ascii-digits [] all = refl
ascii-digits (digit ∷ digits) all =
    let range : IsInRange 48 57 digit = digit_from_value digit all.0 in
    rw (le-leb 48 digit range.0, le-leb digit 57 range.1, ascii-digits digits all.1) refl

-- the digits of a number are a number
pub number_of-decimal : (n : ℕ) → n < 2 ^ 32 → number_of (decimal n) ≡ Some n
number_of-decimal n small =
    let is = decimal_is_IsNumeral n (omega arith) in
    rw (lt-ltb 0 (length (decimal n)) is.0.0, ascii-digits (decimal n) is.0.1, is.1, lt-ltb n (2 ^ 32) small) refl

agent_of-decimal : (agent : ℕ) → agent ≤ MOST_AGENT → agent_of (decimal agent) ≡ Some agent
agent_of-decimal agent most = rw (number_of-decimal agent (omega arith), le-leb agent MOST_AGENT most) refl

place_of-decimal : (place : ℕ) → place < MOST_SIDE → place_of (decimal place) ≡ Some place
place_of-decimal place most = rw (number_of-decimal place (omega arith), lt-ltb place MOST_SIDE most) refl

comma-behind : (digits rest : List ℕ) → AllDigits 10 digits → position_or_len is_comma (digits ++ 44 ∷ rest) ≡ length digits
comma-behind [] rest all = refl
comma-behind (digit ∷ digits) rest all =
    let range : IsInRange 48 57 digit = digit_from_value digit all.0 in
    rw (ne_eqb digit 44 (omega arith), comma-behind digits rest all.1) (omega arith)

cell_of-text : (cell : Point) → IsCell cell → cell_of (cell_text cell) ≡ Some cell
cell_of-text cell lawful =
    let is = decimal_is_IsNumeral cell.x (omega (arith, lawful.column)) in
    let whole : cell_text cell ≡ decimal cell.x ++ 44 ∷ decimal cell.y = append_assoc (decimal cell.x) (codes ",") (decimal cell.y) in
    let at : position_or_len is_comma (decimal cell.x ++ 44 ∷ decimal cell.y) ≡ length (decimal cell.x) = comma-behind (decimal cell.x) (decimal cell.y) is.0.1 in
    let before : before_first is_comma (cell_text cell) ≡ decimal cell.x =
    ap (before_first is_comma) whole ∙ ap (λ n. take n (decimal cell.x ++ 44 ∷ decimal cell.y)) at ∙ take-append_seam (decimal cell.x) (44 ∷ decimal cell.y) in
    let behind : after_first is_comma (cell_text cell) ≡ decimal cell.y =
    ap (after_first is_comma) whole ∙ ap (λ n. drop (n + 1) (decimal cell.x ++ 44 ∷ decimal cell.y)) at ∙ drop-append-add (decimal cell.x) (44 ∷ decimal cell.y) 1 in
    rw (before, behind, place_of-decimal cell.x lawful.column, place_of-decimal cell.y lawful.row) refl

cells_of-text : (cells : List Point) → All IsCell cells → cells_of (map cell_text cells) ≡ Some cells
cells_of-text [] lawful = refl
cells_of-text (cell ∷ cells) lawful = rw (cell_of-text cell (All-head IsCell cell cells lawful), cells_of-text cells (All-tail IsCell cell cells lawful)) refl

-- the line of a watch asks to watch that thing
pub request-watch : (thing : Thing) → IsThing thing → request_of_words (watch_words thing) ≡ Ok (request.Watch thing)
request-watch (things.Agent agent) lawful = rw (agent_of-decimal agent lawful) refl
request-watch (things.Cell cell) lawful = rw (cell_of-text cell lawful) refl
request-watch things.Map lawful = refl

-- an edit line asks for that edit
pub request-edit : (edit : Edit) → IsEdit edit → request_of_words (edit_words edit) ≡ Ok (request.Edit edit)
request-edit (Add agent start goal) lawful = rw (agent_of-decimal agent lawful.0, cell_of-text start lawful.1, cell_of-text goal lawful.2) refl
request-edit (Drop agent) lawful = rw (agent_of-decimal agent lawful) refl
request-edit (Goal agent goal) lawful = rw (agent_of-decimal agent lawful.0, cell_of-text goal lawful.1) refl
request-edit (Path agent cells) lawful = rw (agent_of-decimal agent lawful.0, cells_of-text cells lawful.1) refl
request-edit (Tail agent from cells) lawful = rw (agent_of-decimal agent lawful.0, number_of-decimal from lawful.1, cells_of-text cells lawful.2) refl
request-edit (Open cell) lawful = rw (cell_of-text cell lawful) refl
request-edit (Close cell) lawful = rw (cell_of-text cell lawful) refl

-- each watch and each edit has a line of its own
pub watch_words-injective : (a b : Thing) → IsThing a → IsThing b → watch_words a ≡ watch_words b → a ≡ b
watch_words-injective a b one other same = let asked = sym (request-watch a one) ∙ ap request_of_words same ∙ request-watch b other in cc

pub edit_words-injective : (a b : Edit) → IsEdit a → IsEdit b → edit_words a ≡ edit_words b → a ≡ b
edit_words-injective a b one other same = let asked = sym (request-edit a one) ∙ ap request_of_words same ∙ request-edit b other in cc
