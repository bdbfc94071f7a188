-- Maps between two maps of one size: some cells are as in the second, and the others as in the first.
use Rattle.std.proofs.Common.{◌≡◌, ◌≢◌, ◌⊎◌, ℕ, ◌+◌, ◌*◌, ◌/◌, ◌%◌, ◌<◌, inl, inr, Bool, true, false, cond, ◌||◌, List, [], length, get_or, take, map, Option, Some, None, Contains, refl, sym, ap, ◌∙◌, subst, arith}
use mathlib.Core.Logic.{◌↔◌}
use Rattle.std.specs.Prelude.{unwrap_or}
use Rattle.std.specs.List.{list_any, range_with_len, slice_get}
use Rattle.std.proofs.lemmas.Bool.{cases_Bool}
use Rattle.std.proofs.lemmas.Nat.{same_from_place, row_fits}
use Rattle.std.proofs.lemmas.List.Folds.{list_any_more, list_any_at}
use Rattle.std.proofs.lemmas.List.FromFn.{length-map-range_with_len, get_or-map-range_with_len}
use Rattle.std.proofs.lemmas.Option.{slice_get-get_or, gets}
use Rattle.std.proofs.lemmas.Bool.Decides.{nat_tests}
use Rattle.std.proofs.lemmas.Grind.{common_steps}
use Rattle.grid_cells.specs.Cell.{Point}
use Rattle.grid_cells.specs.Size.{Extent, Holds}
use Rattle.grid_cells.specs.Grid.{Chart, IsClosed, flag_index}
use Rattle.goal_fields.specs.Target.{flag_at, Covers}
use Rattle.cost_ledger.specs.Ledger.{SameClosedBut, SameAt}
use Rattle.live_report.proofs.Cells.{same_test, same_tells}

-- whether the flag of the cell says that it is open
abbrev pub open_at : Chart → Point → Bool
open_at grid cell = unwrap_or (flag_at grid cell) false

-- flags are the same or differ
same_flags : (a b : Option Bool) → (a ≡ b) ⊎ (a ≢ b)
same_flags None None = inl refl
same_flags None (Some b) = inr (λ e. cc)
same_flags (Some a) None = inr (λ e. cc)
same_flags (Some true) (Some true) = inl refl
same_flags (Some true) (Some false) = inr (λ e. cc)
same_flags (Some false) (Some true) = inr (λ e. cc)
same_flags (Some false) (Some false) = inl refl

pub same_closed : (one other : Chart) (cell : Point) → one.size ≡ other.size → (Holds one.size cell → open_at one cell ≡ open_at other cell) → IsClosed one cell ↔ IsClosed other cell
same_closed one other cell size same = grind (arith, nat_tests, common_steps, gets)

-- whether the cell is among the cells
abbrev pub among : List Point → Point → Bool
among cells cell = list_any (λ c. same_test c cell) cells

-- the state of a cell on the map between
abbrev state : Chart → Chart → List Point → Point → Bool
state old new cells cell = cond (among cells cell) (open_at new cell) (open_at old cell)

cell_of : Extent → ℕ → Point
cell_of size i = record { x = i % size.width; y = i / size.width }

-- the map on which those cells are as in the new one, and the others as in the old one
pub turned : Chart → Chart → List Point → Chart
turned old new cells = record { size = new.size; flags = map (λ i. state old new cells (cell_of new.size i)) (range_with_len 0 (new.size.height * new.size.width)) }

pub turned_size : (old new : Chart) (cells : List Point) → (turned old new cells).size ≡ new.size
unfolding turned
turned_size old new cells = refl

cell_there : (size : Extent) (cell : Point) → Holds size cell → cell_of size (flag_index size cell) ≡ cell
unfolding cell_of
cell_there size cell held =
    let column : flag_index size cell % size.width < size.width = omega (arith, held.0) in
    let place : flag_index size cell / size.width * size.width + flag_index size cell % size.width ≡ cell.y * size.width + cell.x = omega (arith, held.0) in
    let s : (flag_index size cell / size.width ≡ cell.y) × (flag_index size cell % size.width ≡ cell.x) = same_from_place (flag_index size cell / size.width) (flag_index size cell % size.width) cell.y cell.x size.width column held.0 place in
    λ i. record { x = s.1 i; y = s.0 i }

open_turned : (old new : Chart) (cells : List Point) (cell : Point) → Holds new.size cell → open_at (turned old new cells) cell ≡ state old new cells cell
unfolding turned
open_turned old new cells cell held =
    let f : ℕ → Bool = λ i. state old new cells (cell_of new.size i) in
    let i : ℕ = flag_index new.size cell in
    let n : ℕ = new.size.height * new.size.width in
    let within : flag_index new.size cell < new.size.height * new.size.width = omega (arith, held.0, row_fits cell.y new.size.width new.size.height new.size.width held.1 (omega arith)) in
    let flags : List Bool = map f (range_with_len 0 n) in
    let there : slice_get flags i ≡ Some (get_or flags i false) = slice_get-get_or flags i false (rw length-map-range_with_len within) in
    let is : get_or flags i false ≡ f i = get_or-map-range_with_len f 0 n i i false within (omega arith) in
    ap (λ o. unwrap_or o false) there ∙ is ∙ ap (state old new cells) (cell_there new.size cell held)

module _ (old new : Chart) (size : old.size ≡ new.size) where
  -- with no cells it is closed where the old one is
  pub turned_none : (cell : Point) → IsClosed old cell ↔ IsClosed (turned old new []) cell
  turned_none cell = same_closed old (turned old new []) cell (size ∙ sym (turned_size old new [])) (λ h. sym (open_turned old new [] cell (subst (λ (s : Extent). Holds s cell) size h)))

  -- with all cells in which the two differ it is closed where the new one is
  pub turned_all : (cells : List Point) → Covers cells old new → (cell : Point) → IsClosed (turned old new cells) cell ↔ IsClosed new cell
  turned_all cells covers cell = same_closed (turned old new cells) new cell (turned_size old new cells) (λ h.
      let held : Holds new.size cell = subst (λ (s : Extent). Holds s cell) (turned_size old new cells) h in
      open_turned old new cells cell held ∙ all_new held)
    where
      all_new : Holds new.size cell → state old new cells cell ≡ open_at new cell
      all_new held = elim (cases_Bool (among cells cell)) [
        | inl is ↦ ap (λ b. cond b (open_at new cell) (open_at old cell)) is
        | inr apart ↦ ap (λ b. cond b (open_at new cell) (open_at old cell)) apart ∙ (elim (same_flags (flag_at old cell) (flag_at new cell)) [
          | inl same ↦ ap (λ o. unwrap_or o false) same
          | inr differ ↦
              let there : Contains cells cell = covers cell (subst (λ (s : Extent). Holds s cell) (sym size) held) differ in
              let found : among cells cell ≡ true = list_any_at (λ c. same_test c cell) cells there.0 cell there.1 (elim (same_tells (get_or cells there.0 cell) cell) [ inl it ↦ it.0 | inr not_it ↦ absurd (not_it.1 there.2) ]) in
              let wrong : true ≡ false = sym found ∙ apart in
              absurd (cc)
        ])
      ]

-- one cell more
module _ (old new : Chart) (cells : List Point) (k : ℕ) (cell : Point) (within : k < length cells) (is : get_or cells k cell ≡ cell) where
  among_more : (other : Point) → among (take (k + 1) cells) other ≡ (among (take k cells) other || same_test cell other)
  among_more other = list_any_more (λ c. same_test c other) cells k cell within ∙ ap (λ c. among (take k cells) other || same_test c other) is

  or_true : (a b : Bool) → b ≡ true → (a || b) ≡ true
  or_true true b e = refl
  or_true false b e = e

  or_false : (a b : Bool) → b ≡ false → (a || b) ≡ a
  or_false true b e = refl
  or_false false b e = e

  pub turned_but : SameClosedBut (turned old new (take k cells)) (turned old new (take (k + 1) cells)) cell
  turned_but other apart = same_closed (turned old new (take k cells)) (turned old new (take (k + 1) cells)) other
      (turned_size old new (take k cells) ∙ sym (turned_size old new (take (k + 1) cells)))
      (λ h.
      let held : Holds new.size other = subst (λ (s : Extent). Holds s other) (turned_size old new (take k cells)) h in
      let same : among (take (k + 1) cells) other ≡ among (take k cells) other = among_more other ∙ or_false (among (take k cells) other) (same_test cell other) (elim (same_tells cell other) [ inl it ↦ absurd (apart (sym it.1)) | inr not_it ↦ not_it.0 ]) in
      open_turned old new (take k cells) other held ∙ ap (λ b. cond b (open_at new other) (open_at old other)) (sym same) ∙ sym (open_turned old new (take (k + 1) cells) other held))

  pub turned_at : SameAt new (turned old new (take (k + 1) cells)) cell
  turned_at = same_closed new (turned old new (take (k + 1) cells)) cell (sym (turned_size old new (take (k + 1) cells))) (λ held.
      let there : among (take (k + 1) cells) cell ≡ true = among_more cell ∙ or_true (among (take k cells) cell) (same_test cell cell) (elim (same_tells cell cell) [ inl it ↦ it.0 | inr not_it ↦ absurd (not_it.1 refl) ]) in
      ap (λ b. cond b (open_at new cell) (open_at old cell)) (sym there) ∙ sym (open_turned old new (take (k + 1) cells) cell held))
