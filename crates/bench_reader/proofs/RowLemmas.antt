-- Rows read so far, letter by letter and line by line.
use Rattle.std.proofs.lemmas.Bool.Decides.{nat_tests}
use Rattle.std.proofs.lemmas.Grind.{common_steps}
use Rattle.std.proofs.Common.{◌≡◌, ℕ, ◌+◌, ◌*◌, ◌<◌, Bool, Option, Some, None, List, [], ◌∷◌, ◌++◌, length, get_or, take, map, flat_map, All, IsSome, ap, sym, ◌∙◌, rules, arith, add-one, append_assoc, suc}
use Rattle.std.proofs.Math.Seq.{take-suc, take-suc-set}
use Rattle.std.proofs.Math.ListN.{set, length-set}
use Rattle.std.specs.Option.{SomeIff}
use Rattle.std.proofs.lemmas.List.{map-append, append-nil, length-append}
use Rattle.std.proofs.lemmas.List.Elements.{All-push}
use Rattle.std.proofs.lemmas.List.Concat.{flat_map-append}
use Rattle.grid_cells.specs.Cell.{Point, point}
use Rattle.grid_cells.specs.Grid.{Chart, flag_index, with_cell}
use Rattle.bench_reader.specs.Lines.{row_of}
use Rattle.bench_reader.specs.Letters.{state_of}

-- the letters up to a column are good
pub good_more : (letters : List ℕ) (col : ℕ) → col < length letters → All (λ letter. IsSome (state_of letter)) (take col letters) → IsSome (state_of (get_or letters col 0)) → All (λ letter. IsSome (state_of letter)) (take (suc col) letters)
good_more letters col within good next = rw (take-suc letters col 0) (All-push (λ letter. IsSome (state_of letter)) (take col letters) (get_or letters col 0) good next)

-- one more letter has its flag
pub letter_more : (before letters : List ℕ) (flags : List Bool) (k col : ℕ) (free : Bool) → k < length flags → col < length letters → state_of (get_or letters col 0) ≡ Some free → map state_of (before ++ take col letters) ≡ map Some (take k flags) → map state_of (before ++ take (suc col) letters) ≡ map Some (take (suc k) (set flags k free))
letter_more before letters flags k col free room within says same = grind (arith, nat_tests, common_steps, take-suc, map-append, take-suc-set)

pub some_value : {T : Type 0} (found : Option T) (P : Type 0) (value x : T) → SomeIff found P value → found ≡ Some x → x ≡ value
some_value None P value x is same = absurd (cc)
some_value (Some y) P value x is same = let found : y ≡ value = is.1 in cc

pub is_some_of : {T : Type 0} {found : Option T} {x : T} → found ≡ Some x → IsSome found
is_some_of same = rw same (search rules)

pub count_kept : (grid new : Chart) (cell : Point) (free : Bool) → new ≡ with_cell grid cell free → length new.flags ≡ length grid.flags
count_kept grid new cell free set_to = ap (λ chart. length chart.flags) set_to ∙ length-set grid.flags (flag_index grid.size cell) free

-- one more cell is set
pub cell_more : (grid new : Chart) (width : ℕ) (cell : Point) (free : Bool) (row col : ℕ) (before letters : List ℕ) → grid.size.width ≡ width → cell ≡ point col row → new ≡ with_cell grid cell free → row * width + col < length grid.flags → col < length letters → state_of (get_or letters col 0) ≡ Some free → map state_of (before ++ take col letters) ≡ map Some (take (row * width + col) grid.flags) → map state_of (before ++ take (col + 1) letters) ≡ map Some (take (row * width + (col + 1)) new.flags)
cell_more grid new width cell free row col before letters wide place set_to room within says same = grind (arith, nat_tests, common_steps, add-one, letter_more)

-- the rows above, whose letters are the flags so far, and the lines left
pub record RowsSoFar (width : ℕ) (body rest : List (List ℕ)) (flags : List Bool) (row : ℕ) : Type 0 where
  pub above : List (List ℕ)
  pub split : body ≡ above ++ rest
  pub high : length above ≡ row
  pub widths : All (λ line. length (row_of line) ≡ width) above
  pub letters : map state_of (flat_map row_of above) ≡ map Some (take (row * width) flags)

pub rows_more : (width : ℕ) (body rest behind : List (List ℕ)) (line : List ℕ) (old new : List Bool) (row : ℕ) → RowsSoFar width body rest old row → rest ≡ line ∷ behind → length (row_of line) ≡ width → ((before : List ℕ) → map state_of before ≡ map Some (take (row * width) old) → map state_of (before ++ row_of line) ≡ map Some (take ((row + 1) * width) new)) → RowsSoFar width body behind new (row + 1)
rows_more width body rest behind line old new row so_far split wide flags = record {
  above = so_far.above ++ line ∷ [];
  split = so_far.split ∙ ap (λ rest. so_far.above ++ rest) split ∙ sym (append_assoc so_far.above (line ∷ []) behind);
  high = omega (arith, length-append so_far.above (line ∷ []), so_far.high);
  widths = All-push (λ line. length (row_of line) ≡ width) so_far.above line so_far.widths wide;
  letters =
      ap (map state_of) (flat_map-append row_of so_far.above (line ∷ []) ∙ ap (λ letters. flat_map row_of so_far.above ++ letters) (append-nil (row_of line)))
      ∙ flags (flat_map row_of so_far.above) so_far.letters;
}
