-- A shared desk whose commits stand in a log before anybody is shown them (this project's choice).
use Rattle.std.specs.Prelude.{◌≡◌, ℕ, ◌≤◌, Bool, true, false, List, [], ◌++◌, Option, Some, None, Any}
use mathlib.Core.List.{IsPrefix}
use Rattle.desk_commits.specs.Entries.{Entry}
use Rattle.desk_log.specs.Keeping.{IsLogged, IsLoggedInPart}
use Rattle.desk_shared.specs.Passes.{PassState, own_of, version_at}

-- whatever a pass was answered is of that version at most
pub record HasSeenTo (seen : ℕ) (pass : PassState) : Type 0 where
  pub made : version_at pass.start pass.made ≤ seen
  pub floor : pass.floor ≤ seen

-- the pass has seen more, and has committed nothing
pub record HasWatched (old new : PassState) : Type 0 where
  pub start : new.start ≡ old.start
  pub planner : new.planner ≡ old.planner
  pub seen : IsPrefix old.made new.made
  pub none : own_of old.planner new.made ≡ own_of old.planner old.made

-- a log has the entries of a desk at its sharing and those made since, and a crash leaves them all; or it has failed, and whatever a crash leaves stands for entries that were kept before, and maybe more
abbrev pub IsKept : (has_failed : Bool) → (head : List ℕ) → (text kept : Option (List ℕ)) → (count : ℕ) → (check : List ℕ) → (start made : List Entry) → Type 0
IsKept false head text kept count check start made = IsLogged head text kept count check (start ++ made)
IsKept true head text kept count check start made = (before : List Entry) × IsPrefix before made × IsLoggedInPart head text kept (start ++ before) (start ++ made)

-- at the end a log has the entries of a closed desk's journal and nothing else, and a crash leaves them all; or it has failed, and whatever a crash leaves stands for entries that were kept before, and maybe more
abbrev pub IsKeptAtEnd : (has_failed : Bool) → (head : List ℕ) → (text kept : Option (List ℕ)) → (count : ℕ) → (check : List ℕ) → (journal : List Entry) → Type 0
IsKeptAtEnd has_failed head text kept count check journal = IsKept has_failed head text kept count check [] journal

-- and so of a journal that goes on from what the log's pass had seen
abbrev pub IsKeptIn : (has_failed : Bool) → (head : List ℕ) → (text kept : Option (List ℕ)) → (count : ℕ) → (check : List ℕ) → (start made : List Entry) → Type 0
IsKeptIn has_failed head text kept count check start made = (seen : List Entry) × IsPrefix seen made × IsKept has_failed head text kept count check start seen

-- how many passes of its own a log has
abbrev pub passes_of : {A : Type 0} → Option A → ℕ
passes_of None = 0
passes_of (Some log) = 1

-- the pass of that number was joined, and has no entries
abbrev pub IsJoinedUnused : ℕ → List (ℕ × List Entry) → Type 0
IsJoinedUnused number past = Any (λ numbered. (numbered.0 ≡ number) × (numbered.1 ≡ [])) past
