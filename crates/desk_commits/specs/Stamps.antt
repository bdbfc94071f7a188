-- Stamps: for each thing, the number of the last entry of a journal that names it (this project's choice).
use Rattle.std.specs.Prelude.{◌≡◌, ℕ, ◌+◌, ◌*◌, ◌<◌, ◌⊎◌, ◌&&◌, List, Any, Option, length, nat_lt, slice_index, if◌then◌else◌}
use Rattle.std.specs.Option.{ForSome}
use Rattle.grid_cells.specs.Size.{Extent, Holds}
use Rattle.grid_cells.specs.Grid.{flag_index}
use Rattle.grid_cells.specs.declared.numbers.TheConstants.{MOST_AGENT}
use Rattle.scene_edits.specs.declared.changes.Thing.{Thing}
use Rattle.scene_edits.specs.declared.changes.Thing.TheVariants as things
use Rattle.scene_edits.specs.declared.edits.Edit.{Edit}
use Rattle.desk_commits.specs.Entries.{Entry, NamesThing}
use Rattle.desk_commits.specs.Stale.{IsNamedAt, IsFreshSince}
use Rattle.desk_commits.specs.declared.stamps.Stamps.{Stamps}

-- the number of the last entry that names the thing, and 0 where none does
pub record IsStamp (journal : List Entry) (thing : Thing) (stamp : ℕ) : Type 0 where
  pub named : 0 < stamp → IsNamedAt journal thing stamp
  pub last : IsFreshSince journal stamp thing

-- the stamp of a thing; none is kept of a cell that isn't on the map
abbrev pub stamp_of : Stamps → Thing → ℕ
stamp_of stamps (things.Agent agent) = slice_index stamps.agents.items agent
stamp_of stamps (things.Cell cell) = if (nat_lt cell.x stamps.size.width && nat_lt cell.y stamps.size.height) then slice_index stamps.cells.items (flag_index stamps.size cell) else 0
stamp_of stamps things.Map = stamps.map

-- there is a place for each agent's number and for each cell of the map
pub record HasPlaces (stamps : Stamps) : Type 0 where
  pub agents : length stamps.agents.items ≡ MOST_AGENT + 1
  pub cells : length stamps.cells.items ≡ stamps.size.width * stamps.size.height

-- each thing has its stamp, on a map of that size
pub record AreStamps (size : Extent) (journal : List Entry) (stamps : Stamps) : Type 0 where
  pub sized : stamps.size ≡ size
  pub places : HasPlaces stamps
  pub each : (thing : Thing) → IsStamp journal thing (stamp_of stamps thing)

-- the thing is on the map, where it is a cell
abbrev pub IsOn : Extent → Thing → Type 0
IsOn size (things.Agent agent) = Unit {0}
IsOn size (things.Cell cell) = Holds size cell
IsOn size things.Map = Unit {0}

-- the edits name cells of the map alone
abbrev pub NameOnMap : Extent → List Edit → Type 0
NameOnMap size edits = (thing : Thing) → Any (NamesThing thing) edits → IsOn size thing

-- the entries name cells of the map alone
abbrev pub NameCellsOfMap : Extent → List Entry → Type 0
NameCellsOfMap size journal = (thing : Thing) (number : ℕ) → IsNamedAt journal thing number → IsOn size thing

-- the things that the edits name have that number now, and the others what they had
pub record AreMarked (old : Stamps) (edits : List Edit) (number : ℕ) (new : Stamps) : Type 0 where
  pub size : new.size ≡ old.size
  pub places : HasPlaces new
  pub things : (thing : Thing) →
      (Any (NamesThing thing) edits × (stamp_of new thing ≡ number)) ⊎ ((Any (NamesThing thing) edits → ⊥) × (stamp_of new thing ≡ stamp_of old thing))

-- where the stamps stand, they are those of the journal
abbrev pub WhereTheyStand : Extent → List Entry → Option Stamps → Type 0
WhereTheyStand size journal stamps = ForSome stamps (AreStamps size journal)
