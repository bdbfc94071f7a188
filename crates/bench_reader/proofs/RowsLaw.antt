-- The first fault of a map's rows and of the lines after them, computed.
use Rattle.std.proofs.lemmas.Bool.Decides.{nat_tests}
use Rattle.std.proofs.lemmas.Grind.{common_steps}
use Rattle.std.proofs.Common.{◌≡◌, ◌-◌, ℕ, zero, suc, ◌+◌, Bool, true, false, ◌&&◌, cond, nat_lt, Option, Some, None, List, [], ◌∷◌, ◌++◌, length, take, map, flat_map, All, IsSome, refl, ap, sym, ◌∙◌, arith}
use Rattle.std.proofs.lemmas.Bool.{and_parts, le-ltb, lt-ltb}
use Rattle.std.proofs.lemmas.List.{map-append}
use Rattle.std.proofs.lemmas.List.Elements.{All-head, All-tail}
use Rattle.std.proofs.lemmas.List.Folds.{list_all-append}
use Rattle.std.specs.List.{list_all, slice_get}
use Rattle.std.specs.Option.{is_some}
use Rattle.grid_cells.specs.Size.{Extent}
use Rattle.grid_cells.specs.Grid.{Chart}
use Rattle.bench_reader.specs.Lines.{is_blank_line, row_of}
use Rattle.bench_reader.specs.Letters.{state_of, AreRows, BeginsWithRows}
use Rattle.bench_reader.specs.RowFaults.{IsRowFault, IsPlaceFault, IsRowsFault}
use Rattle.bench_reader.specs.declared.maps.MapFault.{MapFault}
use Rattle.bench_reader.specs.declared.maps.MapFault.TheVariants.{NotOctile, BadHeader, BadSize, MissingRow, ShortRow, LongRow, BadLetter, ExtraLine, OutOfMemory}

abbrev pick : {A : Type 0} → Option Bool → A → A → A
pick None x y = x
pick (Some b) x y = y

abbrev or_else : Option MapFault → Option MapFault → Option MapFault
or_else None later = later
or_else (Some fault) later = Some fault

abbrev bad_from : ℕ → ℕ → List ℕ → Option MapFault
bad_from row col [] = None
bad_from row col (letter ∷ letters) = pick (state_of letter) (Some (BadLetter row col)) (bad_from row (col + 1) letters)

abbrev letters_fault : ℕ → ℕ → List ℕ → Option MapFault
letters_fault width row letters = cond (nat_lt (length letters) width) (Some (ShortRow row)) (cond (nat_lt width (length letters)) (Some (LongRow row)) (bad_from row 0 letters))

abbrev pub extra_fault : ℕ → List (List ℕ) → Option MapFault
extra_fault number [] = None
extra_fault number (line ∷ lines) = cond (is_blank_line line) (extra_fault (number + 1) lines) (Some (ExtraLine number))

abbrev pub rows_fault : ℕ → ℕ → ℕ → List (List ℕ) → Option MapFault
rows_fault width zero row body = extra_fault (5 + row) body
rows_fault width (suc height) row [] = Some (MissingRow row)
rows_fault width (suc height) row (line ∷ body) = or_else (letters_fault width row (row_of line)) (rows_fault width height (row + 1) body)

pick-some : {A : Type 0} (o : Option Bool) (x y : A) → is_some o ≡ true → pick o x y ≡ y
pick-some None x y h = absurd (cc)
pick-some (Some b) x y h = refl

is_some_from : {A : Type 0} (o : Option A) → IsSome o → is_some o ≡ true
is_some_from o h = h

bad_from-none : (row col : ℕ) (letters : List ℕ) → list_all is_some (map state_of letters) ≡ true → bad_from row col letters ≡ None
bad_from-none row col [] good = refl
bad_from-none row col (letter ∷ letters) good =
    let parts = and_parts (is_some (state_of letter)) (list_all is_some (map state_of letters)) good in
    pick-some (state_of letter) (Some (BadLetter row col)) (bad_from row (col + 1) letters) parts.0 ∙ bad_from-none row (col + 1) letters parts.1

letters_fault-none : (width row : ℕ) (letters : List ℕ) → length letters ≡ width → list_all is_some (map state_of letters) ≡ true → letters_fault width row letters ≡ None
letters_fault-none width row letters wide good =
    rw (le-ltb (length letters) width (omega arith), le-ltb width (length letters) (omega arith)) (bad_from-none row 0 letters good)

skip_rows : (width height row : ℕ) (above tail : List (List ℕ)) → All (λ line. length (row_of line) ≡ width) above → list_all is_some (map state_of (flat_map row_of above)) ≡ true → rows_fault width (length above + height) row (above ++ tail) ≡ rows_fault width height (row + length above) tail
skip_rows width height row [] tail wide good = let count : 0 + height ≡ height = omega arith in let place : row + 0 ≡ row = omega arith in rw (count, place) refl
skip_rows width height row (line ∷ above) tail wide good =
    let split : list_all is_some (map state_of (row_of line)) && list_all is_some (map state_of (flat_map row_of above)) ≡ true =
    sym (ap (list_all is_some) (map-append state_of (row_of line) (flat_map row_of above)) ∙ list_all-append is_some (map state_of (row_of line)) (map state_of (flat_map row_of above))) ∙ good in
    let parts = and_parts (list_all is_some (map state_of (row_of line))) (list_all is_some (map state_of (flat_map row_of above))) split in
    let count : suc (length above) + height ≡ suc (length above + height) = omega arith in
    let place : row + 1 + length above ≡ row + suc (length above) = omega arith in
    ap (λ n. rows_fault width n row (line ∷ (above ++ tail))) count
    ∙ ap (λ fault. or_else fault (rows_fault width (length above + height) (row + 1) (above ++ tail))) (letters_fault-none width row (row_of line) (All-head (λ line. length (row_of line) ≡ width) line above wide) parts.0)
    ∙ skip_rows width height (row + 1) above tail (All-tail (λ line. length (row_of line) ≡ width) line above wide) parts.1
    ∙ ap (λ n. rows_fault width height n tail) place

some_flags : (flags : List Bool) → list_all is_some (map Some flags) ≡ true
some_flags [] = refl
some_flags (flag ∷ flags) = some_flags flags

good_letters : (width : ℕ) (rows : List (List ℕ)) (flags : List Bool) → AreRows width rows flags → list_all is_some (map state_of (flat_map row_of rows)) ≡ true
good_letters width rows flags good = ap (list_all is_some) good.letters ∙ some_flags flags

bad_from-first : (row k : ℕ) (letters : List ℕ) (col letter : ℕ) → All (λ letter. IsSome (state_of letter)) (take col letters) → slice_get letters col ≡ Some letter → state_of letter ≡ None → bad_from row k letters ≡ Some (BadLetter row (k + col))
bad_from-first row k [] col letter before there none = absurd (cc)
bad_from-first row k (first ∷ letters) zero letter before there none = grind (arith, nat_tests, common_steps)
bad_from-first row k (first ∷ letters) (suc col) letter before there none =
    let place : k + 1 + col ≡ k + suc col = omega arith in
    pick-some (state_of first) (Some (BadLetter row k)) (bad_from row (k + 1) letters) (is_some_from (state_of first) (All-head (λ letter. IsSome (state_of letter)) first (take col letters) before))
    ∙ bad_from-first row (k + 1) letters col letter (All-tail (λ letter. IsSome (state_of letter)) first (take col letters) before) there none
    ∙ ap (λ n. Some (BadLetter row n)) place

row_fault-is : (width row : ℕ) (letters : List ℕ) (fault : MapFault) → IsRowFault width row letters fault → letters_fault width row letters ≡ Some fault
row_fault-is width row letters (ShortRow at) is = rw (lt-ltb (length letters) width is.1, is.0) refl
row_fault-is width row letters (LongRow at) is = rw (le-ltb (length letters) width (omega (arith, is.1)), lt-ltb width (length letters) is.1, is.0) refl
row_fault-is width row letters (BadLetter at col) is = grind (arith, nat_tests, common_steps, le-ltb, bad_from-first)
row_fault-is width row letters NotOctile is = absurd is
row_fault-is width row letters (BadHeader line) is = absurd is
row_fault-is width row letters BadSize is = absurd is
row_fault-is width row letters (MissingRow at) is = absurd is
row_fault-is width row letters (ExtraLine line) is = absurd is
row_fault-is width row letters OutOfMemory is = absurd is

place_fault-is : (width height row : ℕ) (below : List (List ℕ)) (fault : MapFault) → IsPlaceFault width row below fault → rows_fault width (suc height) row below ≡ Some fault
place_fault-is width height row [] fault is = rw is refl
place_fault-is width height row (line ∷ below) fault is = ap (λ first. or_else first (rows_fault width height (row + 1) below)) (row_fault-is width row (row_of line) fault is)

pub rows_fault-is : (size : Extent) (body : List (List ℕ)) (fault : MapFault) → IsRowsFault size body fault → rows_fault size.width size.height 0 body ≡ Some fault
rows_fault-is size body fault bad =
    let left : ℕ = size.height - (length bad.above + 1) in
    let count : size.height ≡ length bad.above + suc left = omega (arith, bad.within) in
    let place : 0 + length bad.above ≡ length bad.above = omega arith in
    ap (λ body. rows_fault size.width size.height 0 body) bad.split
    ∙ ap (λ n. rows_fault size.width n 0 (bad.above ++ bad.below)) count
    ∙ skip_rows size.width (suc left) 0 bad.above bad.below bad.good.widths (good_letters size.width bad.above bad.flags bad.good)
    ∙ ap (λ n. rows_fault size.width (suc left) n bad.below) place
    ∙ place_fault-is size.width left (length bad.above) bad.below fault bad.first

pub rows_fault-past : (grid : Chart) (body tail : List (List ℕ)) → BeginsWithRows grid body tail → rows_fault grid.size.width grid.size.height 0 body ≡ extra_fault (5 + grid.size.height) tail
rows_fault-past grid body tail begins =
    let count : grid.size.height ≡ length begins.rows + 0 = omega (arith, begins.high) in
    let place : 5 + (0 + length begins.rows) ≡ 5 + grid.size.height = omega (arith, begins.high) in
    ap (λ body. rows_fault grid.size.width grid.size.height 0 body) begins.split
    ∙ ap (λ n. rows_fault grid.size.width n 0 (begins.rows ++ tail)) count
    ∙ skip_rows grid.size.width 0 0 begins.rows tail begins.good.widths (good_letters grid.size.width begins.rows grid.flags begins.good)
    ∙ ap (λ n. extra_fault n tail) place

pub extra_fault-none : (number : ℕ) (tail : List (List ℕ)) → list_all is_blank_line tail ≡ true → extra_fault number tail ≡ None
extra_fault-none number [] blank = refl
extra_fault-none number (line ∷ tail) blank =
    let parts = and_parts (is_blank_line line) (list_all is_blank_line tail) blank in
    ap (λ b. cond b (extra_fault (number + 1) tail) (Some (ExtraLine number))) parts.0 ∙ extra_fault-none (number + 1) tail parts.1

pub extra_fault-first : (number : ℕ) (blanks rest : List (List ℕ)) (line : List ℕ) → list_all is_blank_line blanks ≡ true → is_blank_line line ≡ false → extra_fault number (blanks ++ line ∷ rest) ≡ Some (ExtraLine (number + length blanks))
extra_fault-first number [] rest line blank written = grind (arith, nat_tests, common_steps)
extra_fault-first number (first ∷ blanks) rest line blank written =
    let parts = and_parts (is_blank_line first) (list_all is_blank_line blanks) blank in
    let place : number + 1 + length blanks ≡ number + suc (length blanks) = omega arith in
    ap (λ b. cond b (extra_fault (number + 1) (blanks ++ line ∷ rest)) (Some (ExtraLine number))) parts.0
    ∙ extra_fault-first (number + 1) blanks rest line parts.1 written
    ∙ ap (λ n. Some (ExtraLine n)) place
