-- Calls on numbers behind a handle, and where their answers are put (this project's choice).
use Rattle.std.specs.Prelude.{◌≡◌, ℕ, Bool, List, Option, Some, None, Result}
use Rattle.mapf_rules.specs.declared.kinds.Kinds.{Kinds}
use Rattle.desk_commits.specs.State.{DeskState, version_of}
use Rattle.desk_commits.specs.declared.answers.Reading.{Reading}
use Rattle.desk_c.specs.Planning.{CommitsPath, GivesEntries, TellsDistance, TellsEntries, TellsSolves, TriesPath}
use Rattle.desk_c.specs.Statuses.{Gives, GivesDistance}
use Rattle.desk_c.specs.declared.numbers.CellNumbers.{CellNumbers}
use Rattle.desk_c.specs.declared.numbers.EntryNumbers.{EntryNumbers}
use Rattle.desk_c.specs.declared.states.OpenDesk.{OpenDesk}
use Rattle.desk_c.specs.declared.states.Opening.{Opening}
use Rattle.desk_c.specs.declared.states.Opening.TheVariants.{Open, Refused}
use Rattle.desk_c.specs.declared.states.State.{State}
use Rattle.desk_c.specs.declared.statuses.Stop.{Stop}
use Rattle.desk_c.specs.declared.statuses.TheConstants.{CLOSED, DONE}

-- no desk is open, and what the caller has is as it was
abbrev pub IsUnmoved : {X : Type 0} → ℕ → (old new : X) → Type 0
IsUnmoved told old new = (told ≡ CLOSED) × (new ≡ old)

-- the same of a room for entries and their count
abbrev pub IsUnfilled : ℕ → (room0 room1 : List EntryNumbers) → (count0 count1 : ℕ) → Type 0
IsUnfilled told room0 room1 count0 count1 = (told ≡ CLOSED) × (room1 ≡ room0) × (count1 ≡ count0)

-- the desk's version is told
abbrev pub TellsVersion : (told version1 : ℕ) → DeskState → Type 0
TellsVersion told version1 desk = (told ≡ DONE) × (version1 ≡ version_of desk)

-- what is told of the open desk behind a handle, or that none is open
abbrev pub OfOpening : (DeskState → Type 0) → Type 0 → Opening → Type 0
OfOpening Told Nothing (Open it) = Told it.desk
OfOpening Told Nothing (Refused fault) = Nothing

-- the same behind a handle
abbrev pub OfDesk : (DeskState → Type 0) → Type 0 → Option State → Type 0
OfDesk Told Nothing None = Nothing
OfDesk Told Nothing (Some state) = OfOpening Told Nothing state.opening

-- what a call makes of the open desk; its session and the last answer stay
abbrev pub AtOpen : (DeskState → DeskState → Type 0) → Type 0 → Opening → State → State → Type 0
AtOpen Does Nothing (Open it) old new = (after : DeskState) × Does it.desk after
    × (new.opening ≡ Open (record { desk = after; dialogue = it.dialogue; lines = it.lines })) × (new.answer ≡ old.answer)
AtOpen Does Nothing (Refused fault) old new = Nothing × (new ≡ old)

-- the same behind a handle
abbrev pub AtDesk : (DeskState → DeskState → Type 0) → Type 0 → Option State → Option State → Type 0
AtDesk Does Nothing None new = Nothing × (new ≡ None)
AtDesk Does Nothing (Some old) None = ⊥
AtDesk Does Nothing (Some old) (Some new) = AtOpen Does Nothing old.opening old new

-- a path is committed, and the answer put in its place
pub record CommitsAt (agent : ℕ) (path : List CellNumbers) (told version0 version1 : ℕ) (old new : DeskState) : Type 0 where
  pub answer : Result ℕ Stop
  pub commits : CommitsPath old agent path answer new
  pub gives : Gives answer told version0 version1

-- a path is tried
pub record TriesAt (agent : ℕ) (path : List CellNumbers) (told : ℕ) (room0 room1 : List EntryNumbers) (count0 count1 : ℕ) (desk : DeskState) : Type 0 where
  pub answer : Result Reading Stop
  pub tries : TriesPath desk agent path answer
  pub gives : GivesEntries answer told room0 room1 count0 count1

-- an agent's conflicts are told
pub record TellsEntriesAt (agent told : ℕ) (room0 room1 : List EntryNumbers) (count0 count1 : ℕ) (desk : DeskState) : Type 0 where
  pub answer : Result Reading Stop
  pub tells : TellsEntries desk agent answer
  pub gives : GivesEntries answer told room0 room1 count0 count1

-- whether the plans solve is told
pub record TellsSolvesAt (kinds : Kinds) (told : ℕ) (place0 place1 : Bool) (desk : DeskState) : Type 0 where
  pub answer : Result Bool Stop
  pub tells : TellsSolves desk kinds answer
  pub gives : Gives answer told place0 place1

-- a distance is told
pub record TellsDistanceAt (agent : ℕ) (cell : CellNumbers) (told place0 place1 : ℕ) (desk : DeskState) : Type 0 where
  pub answer : Result (Option ℕ) Stop
  pub tells : TellsDistance desk agent cell answer
  pub gives : GivesDistance answer told place0 place1
