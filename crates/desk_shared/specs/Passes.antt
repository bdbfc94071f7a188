-- What a pass knows of a shared desk (this project's choice): the desk as it was shared, the entries accepted since then that the pass has seen, and its numbers.
use Rattle.std.specs.Prelude.{◌≡◌, ◌≢◌, ℕ, ◌+◌, ◌<◌, ◌≤◌, Bool, true, false, eqb, List, [], ◌∷◌, length, drop, slice_index_or, All}
use mathlib.Core.List.{IsPrefix}
use Rattle.atomic_table.specs.Seated.{TableId}
use Rattle.desk_commits.specs.Entries.{Entry}
use Rattle.desk_commits.specs.State.{DeskState, version_of}
use Rattle.desk_commits.specs.Replays.{IsLegal}

-- what a pass knows: the desk at its sharing and for how many planners it was shared, the entries that it has seen of those made since, the greatest front that it was told, its planner number, for each number whether it may still give it away, and the number of each pass that was joined into it, with the entries that this number has for ever
pub record PassState : Type 0 where
  pub start : DeskState
  pub planners : ℕ
  pub made : List Entry
  pub floor : ℕ
  pub planner : ℕ
  pub unused : List Bool
  pub past : List (ℕ × List Entry)

-- a pass as callers see it: of which shared desk it is, and what it knows
pub record Held : Type 0 where
  pub table_id : TableId
  pub known : PassState

-- a shared desk as callers see it: which one it is, and how many planners it may have
pub record Sharing : Type 0 where
  pub table_id : TableId
  pub planners : ℕ

-- the pass is of that shared desk
abbrev pub Owns : Sharing → Held → Type 0
Owns desk pass = pass.table_id ≡ desk.table_id

-- the entries, after that one where it counts
abbrev pub own_if : Bool → Entry → List Entry → List Entry
own_if true entry entries = entry ∷ entries
own_if false entry entries = entries

-- the entries of one planner
abbrev pub own_of : ℕ → List Entry → List Entry
own_of planner [] = []
own_of planner (entry ∷ later) = own_if (eqb entry.planner planner) entry (own_of planner later)

-- the version of the desk after entries
abbrev pub version_at : DeskState → List Entry → ℕ
version_at start made = version_of start + length made

-- the pass may give the number to another
abbrev pub MayGive : PassState → ℕ → Type 0
MayGive pass number = slice_index_or pass.unused number false ≡ true

-- each entry is of one of so many planners
abbrev pub AreOfPlanners : ℕ → List Entry → Type 0
AreOfPlanners planners = All (λ entry. entry.planner < planners)

-- the entries have just these of that number
abbrev pub HasJust : List Entry → ℕ × List Entry → Type 0
HasJust made numbered = own_of numbered.0 made ≡ numbered.1

-- the number was given to another: it isn't the pass's own, and the pass may not give it
abbrev pub IsOfAnother : PassState → ℕ → Type 0
IsOfAnother pass number = (number ≢ pass.planner) × (MayGive pass number → ⊥)

-- a journal that goes on from what the pass has seen: it is legal, no shorter than the floor, and of the desk's planners alone. What it has beyond that was committed by others: it has no more entries of the pass's own number, of a number that the pass may give, or of a pass that was joined into it
pub record ExtendsSeen (pass : PassState) (made : List Entry) : Type 0 where
  pub seen : IsPrefix pass.made made
  pub floor : pass.floor ≤ version_at pass.start made
  pub legal : IsLegal pass.start made
  pub within : version_at pass.start made ≤ pass.start.limit
  pub own : own_of pass.planner made ≡ own_of pass.planner pass.made
  pub numbered : AreOfPlanners pass.planners made
  pub others : All (λ entry. IsOfAnother pass entry.planner) (drop (length pass.made) made)
  pub past : All (HasJust made) pass.past
