use Rattle.std.proofs.lemmas.Bool.Decides.{nat_tests}
use Rattle.std.proofs.lemmas.Grind.{common_steps}
use Rattle.std.specs.Prelude.{slice_index, slice_index_or}
use Rattle.std.specs.List.{SwappedAt}
use Rattle.std.proofs.Common.{◌+◌, sum_by, ◌≡◌, ◌≢◌, ℕ, ◌<◌, List, length, None, ap, sym, ◌∙◌, arith, get_or-set_same, get_or-set_other}
use Rattle.std.proofs.Math.ListN.{set, length-set, length-map}
use Rattle.std.proofs.lemmas.List.{get_or-map, get_or_read, ext_get_or}
use Rattle.std.proofs.lemmas.List.Sums.{sum_by-set}
use Rattle.cell_queue.specs.Heap.{nowhere, absent}
use Rattle.grid_cells.specs.Cell.{Point}
use Rattle.grid_cells.specs.Size.{Extent}
use Rattle.grid_cells.specs.Grid.{flag_index}
use Rattle.cell_queue.specs.Queue.{area}
use Rattle.cell_queue.specs.Heap.{IsSynced, number_in, key_by_place, keys_of}
use Rattle.cell_queue.proofs.Indexes.{index_below}
use Rattle.cell_queue.proofs.HeapOrder.{IsExchange}

-- the cell at a place of the heap
abbrev pub cell_in : List Point → ℕ → Point
cell_in cells i = slice_index_or cells i (record { x = 0; y = 0 })

-- the number of a cell that was read
pub number_read : (size : Extent) (cells : List Point) (i n : ℕ) (cell : Point) → i < length cells → cell ≡ slice_index_or cells i cell → n ≡ flag_index size cell → n ≡ number_in size cells i
number_read size cells i n cell inside read is = is ∙ ap (λ (v : Point). flag_index size v) (get_or_read cells i cell inside read (record { x = 0; y = 0 }))

-- what the exchange of two places does to the cells and to the places
pub record IsMoved (size : Extent) (cells cells' : List Point) (P P' : ℕ → ℕ) (len i j : ℕ) : Type 0 where
  pub first : cell_in cells' i ≡ cell_in cells j
  pub second : cell_in cells' j ≡ cell_in cells i
  pub rest : (x : ℕ) → x ≢ i → x ≢ j → cell_in cells' x ≡ cell_in cells x
  pub to_second : P' (number_in size cells i) ≡ j
  pub to_first : P' (number_in size cells j) ≡ i
  pub others : (n : ℕ) → n ≢ number_in size cells i → n ≢ number_in size cells j → P' n ≡ P n

pub moved : (size : Extent) (cells cells' : List Point) (keys places : List ℕ) (len i j : ℕ) → IsSynced size cells keys places len → i < len → j < len → SwappedAt cells cells' i j →
    IsMoved size cells cells' (λ x. slice_index places x) (λ x. slice_index (set (set places (number_in size cells j) i) (number_in size cells i) j) x) len i j
moved size cells cells' keys places len i j s li lj swapped = grind (arith, nat_tests, common_steps, length-set, get_or-set_same, index_below, get_or-set_other)

-- the exchange keeps places and cells in step
pub IsSynced-swap : (size : Extent) (cells cells' : List Point) (keys keys' places places' : List ℕ) (len i j : ℕ) → IsSynced size cells keys places len → i < len → j < len →
    length cells' ≡ length cells → length keys' ≡ length keys → length places' ≡ length places → len + sum_by absent places' ≡ len + sum_by absent places →
    IsMoved size cells cells' (λ x. slice_index places x) (λ x. slice_index places' x) len i j → IsSynced size cells' keys' places' len
IsSynced-swap size cells cells' keys keys' places places' len i j s li lj lc lk lp same_count m =
    record {
      sized = s.sized;
      cells_far = omega (arith, lc, s.cells_far);
      keys_far = omega (arith, lk, s.keys_far);
      one_place_each = lp ∙ s.one_place_each;
      within = s.within;
      held = λ k h. grind (arith, m.rest k, s.held k h, s.held i li, s.held j lj);
      back = λ k h. grind (arith, m.rest k, m.others (number_in size cells k), s.back k h, s.back i li, s.back j lj);
      forth = λ n h below. grind (arith, m.others n, m.rest (slice_index places n), s.forth n h);
      gone = λ n h over. grind (arith, m.others n, s.gone n h);
      counted = same_count ∙ s.counted;
    }

-- the exchange leaves each cell its key
pub keys_of-swap : (size : Extent) (cells cells' : List Point) (keys keys' places places' : List ℕ) (len i j : ℕ) → IsSynced size cells keys places len → i < len → j < len →
    length places' ≡ length places →
    IsMoved size cells cells' (λ x. slice_index places x) (λ x. slice_index places' x) len i j → IsExchange (λ x. slice_index keys x) (λ x. slice_index keys' x) i j →
    keys_of places' keys' len ≡ keys_of places keys len
keys_of-swap size cells cells' keys keys' places places' len i j s li lj lp m x =
    ext_get_or None (keys_of places' keys' len) (keys_of places keys len) (simp length-map lp)
    (λ n h.
    (let hp' : n < length places' = rw length-map at h in
    let hp : n < length places = omega arith in
    get_or-map (key_by_place keys' len) places' n 0 None hp' ∙ each n (omega (arith, s.one_place_each)) ∙ sym (get_or-map (key_by_place keys len) places n 0 None hp)))
  where
    each : (n : ℕ) → n < area size → key_by_place keys' len (slice_index places' n) ≡ key_by_place keys len (slice_index places n)
    each n h = grind (arith, nat_tests, m.others n, s.forth n h, s.back i li, s.back j lj, x.rest (slice_index places n))

-- a write of a place over a place leaves the count
pub sum_by-absent-set : (places : List ℕ) (n p : ℕ) → n < length places → slice_index places n < nowhere → p < nowhere → sum_by absent (set places n p) ≡ sum_by absent places
sum_by-absent-set places n p h old new = grind (arith, nat_tests, common_steps, sum_by-set)

pub same_count_of : (size : Extent) (cells : List Point) (keys places : List ℕ) (len i j : ℕ) → IsSynced size cells keys places len → i < len → j < len →
    len + sum_by absent (set (set places (number_in size cells j) i) (number_in size cells i) j) ≡ len + sum_by absent places
same_count_of size cells keys places len i j s li lj =
    let n_i : number_in size cells i < length places = omega (arith, index_below size (cell_in cells i) (s.held i li), s.one_place_each) in
    let n_j : number_in size cells j < length places = omega (arith, index_below size (cell_in cells j) (s.held j lj), s.one_place_each) in
    let one = sum_by-absent-set places (number_in size cells j) i n_j (omega (arith, s.back j lj, s.within, s.sized.cells_most)) (omega (arith, s.within, s.sized.cells_most)) in
    let at : slice_index (set places (number_in size cells j) i) (number_in size cells i) < nowhere =
    grind (arith, get_or-set_same places (number_in size cells j) i 0, get_or-set_other places (number_in size cells j) (number_in size cells i) i 0, s.back i li, s.within, s.sized.cells_most) in
    omega (arith, one, sum_by-absent-set (set places (number_in size cells j) i) (number_in size cells i) j (rw length-set n_i) at (omega (arith, s.within, s.sized.cells_most)))
