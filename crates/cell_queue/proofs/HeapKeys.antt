use Rattle.std.proofs.lemmas.Bool.Decides.{nat_tests}
use Rattle.std.proofs.lemmas.Grind.{common_steps}
use Rattle.std.specs.Prelude.{slice_index, slice_index_or, replicate}
use Rattle.std.proofs.Common.{◌+◌, ◌≡◌, ◌≢◌, ℕ, ◌<◌, ◌≤◌, List, length, Option, Some, None, refl, sym, ◌∙◌, inl, inr, arith, get_or-set_same, get_or-set_other}
use Rattle.std.proofs.Math.ListN.{set, length-set, length-map}
use Rattle.std.proofs.lemmas.List.{get_or-map, ext_get_or, get_or-replicate, length-replicate}
use Rattle.std.proofs.lemmas.List.Sums.{sum_by-set}
use Rattle.std.proofs.lemmas.Bool.{cases_eq}
use Rattle.grid_cells.specs.Cell.{Point}
use Rattle.grid_cells.specs.Size.{Extent, Holds}
use Rattle.cell_queue.specs.Heap.{nowhere, absent, IsLaid, IsSynced, IsOrdered, number_in, key_by_place, keys_of}
use Rattle.cell_queue.specs.Queue.{area}
use Rattle.grid_cells.specs.Grid.{flag_index}
use Rattle.cell_queue.proofs.Indexes.{index_below}
use Rattle.cell_queue.proofs.HeapOrder.{IsOrdered-top}
use Rattle.cell_queue.proofs.HeapSync.{cell_in}

pub in_heap : (keys : List ℕ) (len p : ℕ) → p < len → key_by_place keys len p ≡ Some (slice_index keys p)
in_heap keys len p h = grind (arith, nat_tests)

pub out_of_heap : (keys : List ℕ) (len p : ℕ) → len ≤ p → key_by_place keys len p ≡ None
out_of_heap keys len p h = grind (arith, nat_tests)

-- the key of the cell with this number
pub key_of : (places keys : List ℕ) (len n : ℕ) → n < length places → slice_index_or (keys_of places keys len) n None ≡ key_by_place keys len (slice_index places n)
key_of places keys len n h = get_or-map (key_by_place keys len) places n 0 None h

-- one key has changed
pub keys_of-set : (places places' keys keys' : List ℕ) (len len' n : ℕ) (v : Option ℕ) → length places' ≡ length places → n < length places →
    key_by_place keys' len' (slice_index places' n) ≡ v →
    ((m : ℕ) → m < length places → m ≢ n → key_by_place keys' len' (slice_index places' m) ≡ key_by_place keys len (slice_index places m)) →
    keys_of places' keys' len' ≡ set (keys_of places keys len) n v
keys_of-set places places' keys keys' len len' n v l within here others =
    ext_get_or None (keys_of places' keys' len') (set (keys_of places keys len) n v) (simp (length-map, length-set) l)
    (λ m h.
    (let h1 : m < length places' = rw length-map at h in
    let h2 : m < length places = omega arith in
    key_of places' keys' len' m h1 ∙ elim (cases_eq m n) [
      | inl e ↦ rw e (here ∙ sym (get_or-set_same (keys_of places keys len) n v None (rw length-map within)))
      | inr ne ↦ others m h2 ne ∙ sym (key_of places keys len m h2) ∙ sym (get_or-set_other (keys_of places keys len) n m v None ne)
    ]))

-- an empty heap
pub keys_of-empty : (keys : List ℕ) (n : ℕ) → keys_of (replicate n nowhere) keys 0 ≡ replicate n None
keys_of-empty keys n =
    ext_get_or None (keys_of (replicate n nowhere) keys 0) (replicate n None) (simp (length-map, length-replicate))
    (λ m h.
    (let h1 : m < length (replicate n nowhere) = rw length-map at h in
    let h2 : m < n = rw length-replicate at h1 in
    key_of (replicate n nowhere) keys 0 m h1 ∙ out_of_heap keys 0 (slice_index (replicate n nowhere) m) (omega arith) ∙ sym (get_or-replicate n m None None h2)))

-- there is room while a cell is not in the heap
pub room_left : (size : Extent) (cells : List Point) (keys places : List ℕ) (len n : ℕ) → IsSynced size cells keys places len → n < area size → len ≤ slice_index places n → len < area size
room_left size cells keys places len n s h out = grind (arith, nat_tests, common_steps, sum_by-set)

-- one more cell at the end of the heap
pub IsSynced-grow : (size : Extent) (cells cells' : List Point) (keys keys' places : List ℕ) (len n key : ℕ) (c : Point) → IsSynced size cells keys places len → Holds size c → n ≡ flag_index size c → len ≤ slice_index places n →
    IsLaid Point cells cells' len c → IsLaid ℕ keys keys' len key → IsSynced size cells' keys' (set places n len) (len + 1)
IsSynced-grow size cells cells' keys keys' places len n key c s held is out laid laid_key =
    let n_in : n < area size = omega (arith, index_below size c held) in
    let room : len < area size = room_left size cells keys places len n s n_in out in
    let at_n : slice_index (set places n len) n ≡ len = get_or-set_same places n len 0 (omega (arith, s.one_place_each)) in
    let at_len : cell_in cells' len ≡ c = laid.here (record { x = 0; y = 0 }) in
    record {
      sized = s.sized;
      cells_far = omega (arith, laid.long);
      keys_far = omega (arith, laid_key.long);
      one_place_each = length-set places n len ∙ s.one_place_each;
      within = omega arith;
      held = λ i h. grind (arith, same_cell i, s.held i);
      back = λ i h. grind (arith, same_cell i, same_place_at (number_in size cells i), s.back i);
      forth = λ m h below. grind (arith, same_place_at m, same_cell (slice_index places m), s.forth m h, s.gone m h, s.sized.cells_most);
      gone = λ m h over. grind (arith, same_place_at m, s.gone m h);
      counted = grind (arith, nat_tests, sum_by-set absent places n len 0, s.gone n n_in out, s.counted, s.one_place_each, s.sized.cells_most);
    }
  where
    same_cell : (i : ℕ) → i < len → cell_in cells' i ≡ cell_in cells i
    same_cell i lt = laid.below i (record { x = 0; y = 0 }) lt

    same_place_at : (m : ℕ) → m ≢ n → slice_index (set places n len) m ≡ slice_index places m
    same_place_at m ne = get_or-set_other places n m len 0 ne

-- its keys
pub keys_of-grow : (size : Extent) (cells : List Point) (keys keys' places : List ℕ) (len n key : ℕ) → IsSynced size cells keys places len → n < area size → len ≤ slice_index places n →
    IsLaid ℕ keys keys' len key → keys_of (set places n len) keys' (len + 1) ≡ set (keys_of places keys len) n (Some key)
keys_of-grow size cells keys keys' places len n key s h out laid =
    let room : len < area size = room_left size cells keys places len n s h out in
    let n_in : n < length places = omega (arith, s.one_place_each) in
    keys_of-set places (set places n len) keys keys' len (len + 1) n (Some key) (length-set places n len) n_in
    (grind (arith, nat_tests, get_or-set_same places n len 0 n_in, laid.here 0))
    (λ m hm ne. rw (get_or-set_other places n m len 0 ne) (grind (arith, nat_tests, laid.below (slice_index places m) 0, s.gone m, s.one_place_each, s.sized.cells_most)))

-- another key for a cell that is in the heap
pub keys_of-change : (size : Extent) (cells : List Point) (keys places : List ℕ) (len n key : ℕ) → IsSynced size cells keys places len → n < area size → slice_index places n < len →
    keys_of places (set keys (slice_index places n) key) len ≡ set (keys_of places keys len) n (Some key)
keys_of-change size cells keys places len n key s h lt =
    keys_of-set places places keys (set keys (slice_index places n) key) len len n (Some key) refl (omega (arith, s.one_place_each))
    (grind (arith, nat_tests, get_or-set_same keys (slice_index places n) key 0, s.keys_far))
    (λ m hm ne. grind (arith, nat_tests, s.forth m, s.forth n h lt, s.one_place_each, get_or-set_other keys (slice_index places n) (slice_index places m) key 0))

-- without the cell at the end of the heap
pub IsSynced-shrink : (size : Extent) (cells : List Point) (keys places : List ℕ) (len last n : ℕ) → IsSynced size cells keys places len → len ≡ last + 1 → n ≡ number_in size cells last →
    IsSynced size cells keys (set places n nowhere) last
IsSynced-shrink size cells keys places len last n s one is =
    let end : last < len = omega arith in
    let n_in : n < length places = omega (arith, index_below size (cell_in cells last) (s.held last end), s.one_place_each) in
    let at_n : slice_index (set places n nowhere) n ≡ nowhere = get_or-set_same places n nowhere 0 n_in in
    let was : slice_index places n ≡ last = rw is (s.back last end) in
    record {
      sized = s.sized;
      cells_far = omega (arith, s.cells_far);
      keys_far = omega (arith, s.keys_far);
      one_place_each = length-set places n nowhere ∙ s.one_place_each;
      within = omega (arith, s.within);
      held = λ i h. s.held i (omega arith);
      back = λ i h. grind (arith, same_place_at (number_in size cells i), s.back i);
      forth = λ m h below. grind (arith, same_place_at m, s.forth m h, s.within, s.sized.cells_most);
      gone = λ m h over. grind (arith, same_place_at m, s.forth m h, s.gone m h);
      counted = grind (arith, nat_tests, sum_by-set absent places n nowhere 0 n_in, s.counted, s.within, s.sized.cells_most);
    }
  where
    same_place_at : (m : ℕ) → m ≢ n → slice_index (set places n nowhere) m ≡ slice_index places m
    same_place_at m ne = get_or-set_other places n m nowhere 0 ne

pub keys_of-shrink : (size : Extent) (cells : List Point) (keys places : List ℕ) (len last n : ℕ) → IsSynced size cells keys places len → len ≡ last + 1 → n ≡ number_in size cells last →
    keys_of (set places n nowhere) keys last ≡ set (keys_of places keys len) n None
keys_of-shrink size cells keys places len last n s one is =
    let end : last < len = omega arith in
    let n_in : n < length places = omega (arith, index_below size (cell_in cells last) (s.held last end), s.one_place_each) in
    keys_of-set places (set places n nowhere) keys keys len last n None (length-set places n nowhere) n_in
    (rw (get_or-set_same places n nowhere 0 n_in) (out_of_heap keys last nowhere (omega (arith, s.within, s.sized.cells_most))))
    (λ m hm ne. rw (get_or-set_other places n m nowhere 0 ne) (grind (arith, nat_tests, s.forth m, s.one_place_each)))

-- a cell that is not in the heap has no key to take
pub keys_of-absent : (size : Extent) (cells : List Point) (keys places : List ℕ) (len n : ℕ) → IsSynced size cells keys places len → n < area size → len ≤ slice_index places n →
    keys_of places keys len ≡ set (keys_of places keys len) n None
keys_of-absent size cells keys places len n s h out = grind (arith, nat_tests, common_steps, keys_of-set, out_of_heap)

-- the top of the heap is under a least key
pub top_least : (size : Extent) (cells : List Point) (keys places : List ℕ) (len n other : ℕ) → IsSynced size cells keys places len → IsOrdered keys len → n < area size →
    slice_index_or (keys_of places keys len) n None ≡ Some other → slice_index keys 0 ≤ other
top_least size cells keys places len n other s ordered h e =
    let k : key_by_place keys len (slice_index places n) ≡ Some other = sym (key_of places keys len n (omega (arith, s.one_place_each))) ∙ e in
    grind (arith, nat_tests, IsOrdered-top keys len ordered (slice_index places n) (slice_index places n) (omega arith))

pub top_found : (size : Extent) (cells : List Point) (keys places : List ℕ) (len : ℕ) → IsSynced size cells keys places len → 0 < len →
    slice_index_or (keys_of places keys len) (number_in size cells 0) None ≡ Some (slice_index keys 0)
top_found size cells keys places len s lt = grind (arith, nat_tests, common_steps, index_below, cell_in, key_of, in_heap)

pub none_left : (size : Extent) (cells : List Point) (keys places : List ℕ) (n : ℕ) → IsSynced size cells keys places 0 → n < area size → slice_index_or (keys_of places keys 0) n None ≡ None
none_left size cells keys places n s h = key_of places keys 0 n (omega (arith, s.one_place_each)) ∙ out_of_heap keys 0 (slice_index places n) (omega arith)
