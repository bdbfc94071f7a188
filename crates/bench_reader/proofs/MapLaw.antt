-- The first fault of a map's text, computed, and that it is the one fault of the definition.
use Rattle.std.proofs.lemmas.Bool.Decides.{nat_tests}
use Rattle.std.proofs.lemmas.Grind.{common_steps}
use Rattle.std.proofs.Common.{◌≡◌, ◌≢◌, ◌⊎◌, inl, inr, ℕ, ◌+◌, ◌*◌, Bool, true, false, ◌&&◌, cond, nat_le, Option, Some, None, List, [], ◌∷◌, ◌++◌, length, drop, map, IsSome, refl, ap, sym, ◌∙◌, arith}
use Rattle.std.proofs.lemmas.Bool.{and_parts, le-leb, leb-true}
use Rattle.grid_cells.specs.Size.{Extent, IsSize}
use Rattle.grid_cells.specs.Grid.{Chart}
use Rattle.grid_cells.specs.declared.sizes.TheConstants.{MOST_SIDE, MOST_CELLS}
use Rattle.bench_reader.specs.MapText.{is_title, is_marker, words_at, height_of, width_of, IsHeader, HasSize, AreMapLines}
use Rattle.bench_reader.specs.MapFaults.{IsBadRow, IsMapFault}
use Rattle.bench_reader.specs.declared.maps.MapFault.{MapFault}
use Rattle.bench_reader.specs.declared.maps.MapFault.TheVariants.{NotOctile, BadHeader, BadSize, MissingRow, ShortRow, LongRow, BadLetter, ExtraLine, OutOfMemory}
use Rattle.bench_reader.proofs.RowsLaw.{extra_fault, rows_fault, rows_fault-is, rows_fault-past, extra_fault-none, extra_fault-first}

abbrev is_size : ℕ → ℕ → Bool
is_size width height = nat_le 1 width && nat_le 1 height && nat_le width MOST_SIDE && nat_le height MOST_SIDE && nat_le (width * height) MOST_CELLS

abbrev fault_of : Bool → Option ℕ → Option ℕ → Bool → List (List ℕ) → Option MapFault
fault_of false height width marker body = Some NotOctile
fault_of true None width marker body = Some (BadHeader 2)
fault_of true (Some height) None marker body = Some (BadHeader 3)
fault_of true (Some height) (Some width) false body = Some (BadHeader 4)
fault_of true (Some height) (Some width) true body = cond (is_size width height) (rows_fault width height 0 body) (Some BadSize)

-- the first fault of the lines, and none for a map's
abbrev pub first_fault : List (List ℕ) → Option MapFault
first_fault lines = fault_of (is_title (words_at lines 0)) (height_of lines) (width_of lines) (is_marker (words_at lines 3)) (drop 4 lines)

nothing_there : false ≡ true → ⊥
nothing_there h = cc

size_yes : (width height : ℕ) → IsSize width height → is_size width height ≡ true
size_yes width height is = rw (le-leb 1 width is.wide, le-leb 1 height is.high, le-leb width MOST_SIDE is.width_most, le-leb height MOST_SIDE is.height_most, le-leb (width * height) MOST_CELLS is.cells_most) refl

size_from : (width height : ℕ) → is_size width height ≡ true → IsSize width height
size_from width height holds = grind (arith, nat_tests, common_steps, and_parts, leb-true)

size_no : (width height : ℕ) → (IsSize width height → ⊥) → is_size width height ≡ false
size_no width height never = grind (arith, nat_tests, common_steps, size_from)

good_header : (lines : List (List ℕ)) (height width : ℕ) → IsHeader lines height width → first_fault lines ≡ cond (is_size width height) (rows_fault width height 0 (drop 4 lines)) (Some BadSize)
good_header lines height width header = rw (header.title, header.high, header.wide, header.marker) refl

good_size : (lines : List (List ℕ)) (size : Extent) → HasSize lines size → first_fault lines ≡ rows_fault size.width size.height 0 (drop 4 lines)
good_size lines size has = good_header lines size.height size.width has.header
    ∙ ap (λ lawful. cond lawful (rows_fault size.width size.height 0 (drop 4 lines)) (Some BadSize)) (size_yes size.width size.height has.lawful)

bad_header : (high wide : Option ℕ) (marker : Bool) (body : List (List ℕ)) (number : ℕ) → ((number ≡ 2) × (high ≡ None)) ⊎ ((number ≡ 3) × IsSome high × (wide ≡ None)) ⊎ ((number ≡ 4) × IsSome high × IsSome wide × (marker ≡ false)) → fault_of true high wide marker body ≡ Some (BadHeader number)
bad_header high wide marker body number (inl is) = rw (is.1, is.0) refl
bad_header None wide marker body number (inr (inl is)) = absurd (nothing_there is.1)
bad_header (Some high) wide marker body number (inr (inl is)) = rw (is.2, is.0) refl
bad_header None wide marker body number (inr (inr is)) = absurd (nothing_there is.1)
bad_header (Some high) None marker body number (inr (inr is)) = absurd (nothing_there is.2)
bad_header (Some high) (Some wide) marker body number (inr (inr is)) = rw (is.3, is.0) refl

bad_row : (lines : List (List ℕ)) (fault : MapFault) → IsBadRow lines fault → first_fault lines ≡ Some fault
bad_row lines fault bad = good_size lines bad.0 bad.1 ∙ rows_fault-is bad.0 (drop 4 lines) fault bad.2

-- a fault of the definition is the first one
pub fault_is : (lines : List (List ℕ)) (fault : MapFault) → fault ≢ OutOfMemory → IsMapFault lines fault → first_fault lines ≡ Some fault
fault_is lines NotOctile other is = ap (λ title. fault_of title (height_of lines) (width_of lines) (is_marker (words_at lines 3)) (drop 4 lines)) is
fault_is lines (BadHeader number) other is = rw is.title (bad_header (height_of lines) (width_of lines) (is_marker (words_at lines 3)) (drop 4 lines) number is.first)
fault_is lines BadSize other is = good_header lines is.height is.width is.header
    ∙ ap (λ lawful. cond lawful (rows_fault is.width is.height 0 (drop 4 lines)) (Some BadSize)) (size_no is.width is.height is.unlawful)
fault_is lines (MissingRow row) other is = bad_row lines (MissingRow row) is
fault_is lines (ShortRow row) other is = bad_row lines (ShortRow row) is
fault_is lines (LongRow row) other is = bad_row lines (LongRow row) is
fault_is lines (BadLetter row col) other is = bad_row lines (BadLetter row col) is
fault_is lines (ExtraLine number) other is =
    good_size lines is.grid.size is.size
    ∙ rows_fault-past is.grid (drop 4 lines) is.tail is.rows
    ∙ ap (extra_fault (5 + is.grid.size.height)) is.extra.split
    ∙ extra_fault-first (5 + is.grid.size.height) is.extra.blanks is.extra.rest is.extra.line is.extra.blank is.extra.written
    ∙ ap (λ n. Some (ExtraLine n)) (sym is.extra.count)
fault_is lines OutOfMemory other is = absurd (other refl)

-- a map's lines have none
pub no_fault : (lines : List (List ℕ)) (grid : Chart) → AreMapLines lines grid → first_fault lines ≡ None
no_fault lines grid is =
    good_size lines grid.size is.size
    ∙ rows_fault-past grid (drop 4 lines) is.tail is.rows
    ∙ extra_fault-none (5 + grid.size.height) is.tail is.blank

same_front : (xs ys more others : List (List ℕ)) → length xs ≡ length ys → xs ++ more ≡ ys ++ others → xs ≡ ys
same_front [] [] more others count same = refl
same_front [] (y ∷ ys) more others count same = absurd (omega arith)
same_front (x ∷ xs) [] more others count same = absurd (omega arith)
same_front (x ∷ xs) (y ∷ ys) more others count same =
    let first : x ≡ y = cc in
    let rest : xs ++ more ≡ ys ++ others = cc in
    let front : xs ≡ ys = same_front xs ys more others (omega arith) rest in
    cc

same_flags : (xs ys : List Bool) → map Some xs ≡ map Some ys → xs ≡ ys
same_flags [] [] same = refl
same_flags [] (y ∷ ys) same = absurd (cc)
same_flags (x ∷ xs) [] same = absurd (cc)
same_flags (x ∷ xs) (y ∷ ys) same =
    let first : x ≡ y = cc in
    let rest : map Some xs ≡ map Some ys = cc in
    let back : xs ≡ ys = same_flags xs ys rest in
    cc

same_chart : (a b : Chart) → a.size.width ≡ b.size.width → a.size.height ≡ b.size.height → a.flags ≡ b.flags → a ≡ b
same_chart a b wide high flags = grind (arith, nat_tests, common_steps)

same_some : {A : Type 0} (x y : A) (o : Option A) → o ≡ Some x → o ≡ Some y → x ≡ y
same_some x y o p q = cc

-- the lines are those of one map
pub one_grid : (lines : List (List ℕ)) (a b : Chart) → AreMapLines lines a → AreMapLines lines b → a ≡ b
one_grid lines a b p q = grind (arith, nat_tests, common_steps, same_some, same_front, same_chart, same_flags)
