-- Sightings in buckets: words for the index's own steps (this project's choice).
use Rattle.std.specs.Prelude.{◌≡◌, ◌≢◌, ℕ, ◌+◌, ◌*◌, ◌%◌, ◌<◌, ◌≤◌, Option, Some, None, List, length, slice_index_or, Contains}
use Rattle.grid_cells.specs.Cell.{Point}
use Rattle.desk_audit.specs.declared.tables.Pass.{Pass}
use Rattle.desk_audit.specs.declared.tables.Slot.{Slot}
use Rattle.desk_audit.specs.declared.tables.Table.{Table}

-- the bucket of a cell and a number, of that many
unfoldable pub bucket_of : ℕ → Point → ℕ → ℕ
bucket_of many cell number = (cell.y * 196613 + cell.x * 769 + number) % many

-- the bucket of a slot
abbrev pub slot_bucket : ℕ → Slot → ℕ
slot_bucket many slot = bucket_of many slot.cell slot.number

-- no slot from one place on and before another is in the bucket
abbrev pub NoneIn : List Slot → ℕ → ℕ → ℕ → ℕ → Type 0
NoneIn slots many bucket low high = (k : ℕ) (d : Slot) → low ≤ k → k < high → slot_bucket many (slice_index_or slots k d) ≢ bucket

-- the place of the last slot before that one that is in the bucket, if there is any
abbrev pub IsLastInBucket : List Slot → ℕ → ℕ → ℕ → Option ℕ → Type 0
IsLastInBucket slots many bucket high None = NoneIn slots many bucket 0 high
IsLastInBucket slots many bucket high (Some last) = (last < high) × ((d : Slot) → slot_bucket many (slice_index_or slots last d) ≡ bucket) × NoneIn slots many bucket (last + 1) high

-- each bucket is known by its last slot, and each slot knows the one before it in its bucket
pub record IsFiled (table : Table) : Type 0 where
  pub some_bucket : 0 < length table.heads.items
  pub heads : (b : ℕ) (d : Option ℕ) → b < length table.heads.items → IsLastInBucket table.slots.items (length table.heads.items) b (length table.slots.items) (slice_index_or table.heads.items b d)
  pub links : (k : ℕ) (d : Slot) → k < length table.slots.items → IsLastInBucket table.slots.items (length table.heads.items) (slot_bucket (length table.heads.items) (slice_index_or table.slots.items k d)) k (slice_index_or table.slots.items k d).before

-- the pass is filed under the cell and the number
abbrev pub Files : Table → Point → ℕ → Pass → Type 0
Files table cell number pass = (before : Option ℕ) × Contains table.slots.items (record { cell = cell; number = number; pass = pass; before = before })

-- something is filed under the cell and the number
abbrev pub HasFiled : Table → Point → ℕ → Type 0
HasFiled table cell number = (pass : Pass) × Files table cell number pass

-- what was filed is filed
abbrev pub KeepsFiled : Table → Table → Type 0
KeepsFiled old new = (cell : Point) (number : ℕ) (pass : Pass) → Files old cell number pass → Files new cell number pass
