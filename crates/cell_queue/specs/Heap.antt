use Rattle.std.specs.Prelude.{◌≡◌, ℕ, ◌+◌, ◌*◌, ◌≤◌, ◌<◌, ◌≢◌, ◌==◌, nat_lt, if◌then◌else◌, Option, Some, None, List, length, map, sum_by, slice_index, slice_index_or, vec_capacity}
use Rattle.grid_cells.specs.Cell.{Point}
use Rattle.grid_cells.specs.Size.{Extent, IsSize, Holds}
use Rattle.cell_queue.specs.declared.heaps.Heap.{Heap}
use Rattle.cell_queue.specs.Queue.{Queue, area}
use Rattle.grid_cells.specs.Grid.{flag_index}

-- the place of a cell that is not in the heap
abbrev pub nowhere : ℕ
nowhere = 4294967295

-- 1 at the place of a cell that is not in the heap
abbrev pub absent : ℕ → ℕ
absent place = if place == nowhere then 1 else 0

-- the key of a cell that stands at this place of the heap
abbrev pub key_by_place : List ℕ → ℕ → ℕ → Option ℕ
key_by_place keys len place = if nat_lt place len then Some (slice_index keys place) else None

-- the keys of all cells
abbrev pub keys_of : List ℕ → List ℕ → ℕ → List (Option ℕ)
keys_of places keys len = map (key_by_place keys len) places

-- where the cell at this place of the heap stands in a list of all cells
abbrev pub number_in : Extent → List Point → ℕ → ℕ
number_in size cells i = flag_index size (slice_index_or cells i (record { x = 0; y = 0 }))

-- each cell of the heap knows its place, and each place below `len` has its cell
pub record IsSynced (size : Extent) (cells : List Point) (keys places : List ℕ) (len : ℕ) : Type 0 where
  pub sized : IsSize size.width size.height
  pub cells_far : len ≤ length cells
  pub keys_far : len ≤ length keys
  pub one_place_each : length places ≡ area size
  pub within : len ≤ area size
  pub held : (i : ℕ) → i < len → Holds size (slice_index_or cells i (record { x = 0; y = 0 }))
  pub back : (i : ℕ) → i < len → slice_index places (number_in size cells i) ≡ i
  pub forth : (n : ℕ) → n < area size → slice_index places n < len → number_in size cells (slice_index places n) ≡ n
  pub gone : (n : ℕ) → n < area size → len ≤ slice_index places n → slice_index places n ≡ nowhere
  pub counted : len + sum_by absent places ≡ area size

-- a list after a write at a place, at most one past its end; what stands below stays
pub record IsLaid (T : Type 0) (old new : List T) (at : ℕ) (value : T) : Type 0 where
  pub long : at < length new
  pub here : (d : T) → slice_index_or new at d ≡ value
  pub below : (k : ℕ) (d : T) → k < at → slice_index_or new k d ≡ slice_index_or old k d

-- the second place is that of a child of the first
abbrev pub IsChild : ℕ → ℕ → Type 0
IsChild p c = (2 * p < c) × (c ≤ 2 * p + 2)

-- no child has a key below its parent's
abbrev pub IsOrdered : List ℕ → ℕ → Type 0
IsOrdered keys len = (p c : ℕ) → IsChild p c → c < len → slice_index keys p ≤ slice_index keys c

-- in order, but for the key at one place, which may be too small or too great
pub record IsLoose (keys : List ℕ) (len at : ℕ) : Type 0 where
  pub others : (p c : ℕ) → IsChild p c → c < len → p ≢ at → c ≢ at → slice_index keys p ≤ slice_index keys c
  pub across : (p c : ℕ) → IsChild p at → IsChild at c → c < len → slice_index keys p ≤ slice_index keys c

-- in order, but for the key at one place, which may be too small
pub record IsLooseUp (keys : List ℕ) (len at : ℕ) : Type 0 where
  pub others : (p c : ℕ) → IsChild p c → c < len → c ≢ at → slice_index keys p ≤ slice_index keys c
  pub across : (p c : ℕ) → IsChild p at → IsChild at c → c < len → slice_index keys p ≤ slice_index keys c

-- in order, but for the key at one place, which may be too great
pub record IsLooseDown (keys : List ℕ) (len at : ℕ) : Type 0 where
  pub others : (p c : ℕ) → IsChild p c → c < len → p ≢ at → slice_index keys p ≤ slice_index keys c
  pub across : (p c : ℕ) → IsChild p at → IsChild at c → c < len → slice_index keys p ≤ slice_index keys c

abbrev pub IsSyncedHeap : Heap → Type 0
IsSyncedHeap h = IsSynced h.size h.cells.items h.keys.items h.places.items h.len

-- the keys of all cells in a heap
abbrev pub keys_in : Heap → List (Option ℕ)
keys_in h = keys_of h.places.items h.keys.items h.len

-- the lists of cells and keys can grow to one for each cell of the map without more memory
pub record HasRoom (h : Heap) : Type 0 where
  pub cells : area h.size ≤ vec_capacity h.cells
  pub keys : area h.size ≤ vec_capacity h.keys

-- synced and in order, with room for each cell
pub record IsHeap (h : Heap) : Type 0 where
  pub synced : IsSyncedHeap h
  pub ordered : IsOrdered h.keys.items h.len
  pub room : HasRoom h

-- the same cells with the same keys, in other places, which they know
pub record IsShuffled (old new : Heap) : Type 0 where
  pub size : new.size ≡ old.size
  pub len : new.len ≡ old.len
  pub keys : keys_in new ≡ keys_in old
  pub synced : IsSyncedHeap new

-- the cells and keys of old, in order but for the key at one place, which is on its way
pub record IsMoving (Loose : List ℕ → ℕ → ℕ → Type 0) (old new : Heap) (at : ℕ) : Type 0 where
  pub shuffled : IsShuffled old new
  pub room : HasRoom new
  pub inside : at < new.len
  pub loose : Loose new.keys.items new.len at

-- a heap as a queue
abbrev pub queue_of : Heap → Queue
queue_of h = record { size = h.size; keys = keys_in h; taken = 0; total = 0 }
