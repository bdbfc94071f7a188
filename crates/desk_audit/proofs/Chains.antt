-- A walk along the chain of one bucket.
use Rattle.std.proofs.Common.{◌≡◌, ◌≢◌, ℕ, ◌<◌, ◌≤◌, List, [], length, get_or, Some, None, Option, refl, sym, subst, arith}
use Rattle.std.specs.List.{Contains}
use Rattle.std.specs.Prelude.{replicate}
use Rattle.std.proofs.lemmas.List.{get_or_default, get_or-replicate, length-replicate}
use Rattle.std.proofs.lemmas.List.Elements.{Contains-get_or}
use Rattle.grid_cells.specs.Cell.{Point}
use Rattle.desk_audit.specs.declared.tables.Pass.{Pass}
use Rattle.desk_audit.specs.Filing.{bucket_of, slot_bucket, IsLastInBucket, IsFiled, HasFiled}
use Rattle.desk_audit.specs.declared.tables.Slot.{Slot}
use Rattle.desk_audit.specs.declared.tables.Table.{Table}

-- how many buckets there are
abbrev pub many_of : Table → ℕ
many_of table = length table.heads.items

-- the walk goes on with the slot at that place, and each slot from its bound on is done
pub record Walked (table : Table) (bucket : ℕ) (next : Option ℕ) (Done : Slot → Type 0) : Type 0 where
  pub bound : ℕ
  pub within : bound ≤ length table.slots.items
  pub last : IsLastInBucket table.slots.items (many_of table) bucket bound next
  pub done : (k : ℕ) (d : Slot) → bound ≤ k → k < length table.slots.items → Done (get_or table.slots.items k d)

module _ (table : Table) (bucket place : ℕ) (slot : Slot) (Done More : Slot → Type 0)
    (filed : IsFiled table) (walk : Walked table bucket (Some place) Done) (is : slot ≡ get_or table.slots.items place slot)
    (keeps : (s : Slot) → Done s → More s) (here : More slot) (others : (s : Slot) → slot_bucket (many_of table) s ≢ bucket → More s) where
  done_more : (k : ℕ) (d : Slot) → place ≤ k → k < length table.slots.items → More (get_or table.slots.items k d)
  done_more k d le lt =
      let s = get_or table.slots.items k d in
      grind (arith, keeps s, walk.done k d, others s, walk.last.2 k d, get_or_default table.slots.items place d slot)

  pub walk_more : Walked table bucket slot.before More
  walk_more =
      let bucket_is : slot_bucket (many_of table) slot ≡ bucket = rw is (walk.last.1 slot) in
      record {
        bound = place;
        within = omega (arith, walk.last.0, walk.within);
        last = rw (← is, bucket_is) at (filed.links place slot (omega (arith, walk.last.0, walk.within)));
        done = done_more;
      }

pub walk_over : (table : Table) (bucket : ℕ) (Done : Slot → Type 0) → Walked table bucket None Done → ((s : Slot) → slot_bucket (many_of table) s ≢ bucket → Done s) → (k : ℕ) (d : Slot) → k < length table.slots.items → Done (get_or table.slots.items k d)
walk_over table bucket Done walk others k d lt = grind (arith, others (get_or table.slots.items k d), walk.last k d, walk.done k d)

-- a slot with that key, of another agent, has its pass in the list
abbrev pub Gathers : Point → ℕ → ℕ → List Pass → Slot → Type 0
Gathers cell number agent found slot = slot.cell ≡ cell → slot.number ≡ number → slot.pass.agent ≢ agent → Contains found slot.pass

pub gathers_others : (table : Table) (cell : Point) (number agent : ℕ) (found : List Pass) (slot : Slot) → slot_bucket (many_of table) slot ≢ bucket_of (many_of table) cell number → Gathers cell number agent found slot
gathers_others table cell number agent found slot differs same_cell same_number other = absurd (differs (rw (same_cell, same_number) refl))

-- a slot with another key
abbrev pub IsApart : Point → ℕ → Slot → Type 0
IsApart cell number slot = slot.cell ≡ cell → slot.number ≡ number → ⊥

pub apart_others : (table : Table) (cell : Point) (number : ℕ) (slot : Slot) → slot_bucket (many_of table) slot ≢ bucket_of (many_of table) cell number → IsApart cell number slot
apart_others table cell number slot differs same_cell same_number = differs (rw (same_cell, same_number) refl)

-- where all slots have another key, nothing is filed
pub none_filed : (table : Table) (cell : Point) (number : ℕ) → Walked table (bucket_of (many_of table) cell number) None (IsApart cell number) → HasFiled table cell number → ⊥
none_filed table cell number walk (pass, filed) =
    let slot : Slot = record { cell = cell; number = number; pass = pass; before = filed.0 } in
    (rw filed.1.2 at (walk_over table _ (IsApart cell number) walk (apart_others table cell number) filed.1.0 slot filed.1.1)) refl refl

-- a slot with the key is filed
pub slot_filed : (table : Table) (cell : Point) (number place : ℕ) (slot : Slot) → place < length table.slots.items → slot ≡ get_or table.slots.items place slot → slot.cell ≡ cell → slot.number ≡ number → HasFiled table cell number
slot_filed table cell number place slot within is same_cell same_number =
    let there : Contains table.slots.items (get_or table.slots.items place slot) = Contains-get_or table.slots.items place slot within in
    let here : Contains table.slots.items slot = subst (λ s. Contains table.slots.items s) (sym is) there in
    (slot.pass, (slot.before, rw (← same_cell, ← same_number) here))

-- where each bucket is empty and there are no slots, the table is filed
none_last : (slots : List Slot) (many bucket : ℕ) (last : Option ℕ) → slots ≡ [] → last ≡ None → IsLastInBucket slots many bucket (length slots) last
none_last slots many bucket last empty none = rw (none, empty) (λ k d low high. absurd (omega (arith, high)))

pub empty_filed : (table : Table) (many : ℕ) → 0 < many → table.heads.items ≡ replicate many None → table.slots.items ≡ [] → IsFiled table
empty_filed table many some heads empty =
    let wide : many_of table ≡ many = rw heads (length-replicate many None) in
    record {
      some_bucket = omega (arith, some, wide);
      heads = λ b d lt.
          let within : b < many = omega (arith, lt, wide) in
          none_last table.slots.items (many_of table) b (get_or table.heads.items b d) empty (rw heads (get_or-replicate many b None d within));
      links = λ k d lt.
          let none : length table.slots.items ≡ 0 = rw empty refl in
          absurd (omega (arith, lt, none));
    }
