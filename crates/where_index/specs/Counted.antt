-- The records of a route, one by one, and those that tell two routes apart (this project's choice).
use Rattle.std.specs.Prelude.{◌≡◌, ◌≢◌, ◌⊎◌, ◌↔◌, ℕ, Some, List, Contains, AllPairs}
use Rattle.grid_cells.specs.Cell.{Point}
use Rattle.plan_table.specs.Route.{Route}
use Rattle.where_index.specs.Records.{stand_at, tail_at, hop_at}

-- a record: where its agent stands at a time, where it comes to rest, or the move that it makes in a step
pub data Record : Type 0 where
  Stand : ℕ → Point → Record
  Tail : ℕ → Point → Record
  Move : ℕ → Point → Point → Record

-- the route has the record
abbrev pub HasRecord : Route → Record → Type 0
HasRecord r (Stand time cell) = stand_at r time ≡ Some cell
HasRecord r (Tail time cell) = tail_at r time ≡ Some cell
HasRecord r (Move time from to) = hop_at r.path time ≡ Some (record { from = from; to = to })

-- exactly one of the two routes has the record
abbrev pub TellsApart : Route → Route → Record → Type 0
TellsApart old new r = (HasRecord old r × (HasRecord new r → ⊥)) ⊎ (HasRecord new r × (HasRecord old r → ⊥))

-- the records that exactly one of the two routes has, each once
pub record ListsApart (old new : Route) (records : List Record) : Type 0 where
  pub each_once : AllPairs (λ a b. a ≢ b) records
  pub exact : (r : Record) → Contains records r ↔ TellsApart old new r
