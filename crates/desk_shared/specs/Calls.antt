-- What each call of a shared desk answers, and what the pass knows then (this project's choice).
use Rattle.std.specs.Prelude.{◌≡◌, ◌≢◌, ◌⊎◌, ℕ, ◌<◌, ◌≤◌, ◌||◌, max, Bool, true, false, List, [], ◌∷◌, ◌++◌, slice_index_or, slice_set, All, Result, Ok, Err}
use mathlib.Core.List.{IsPrefix}
use Rattle.desk_commits.specs.Entries.{Entry}
use Rattle.desk_commits.specs.State.{DeskState, after}
use Rattle.desk_commits.specs.Commits.{Committed}
use Rattle.desk_commits.specs.declared.answers.Refusal.{Refusal}
use Rattle.desk_shared.specs.declared.faults.TheConstants.{MOST_PLANNERS}
use Rattle.desk_shared.specs.declared.faults.ShareFault.{ShareFault}
use Rattle.desk_shared.specs.declared.faults.ShareFault.TheVariants.{BadPlanners, OutOfMemory}
use Rattle.desk_shared.specs.Passes.{PassState, own_of, version_at, MayGive, AreOfPlanners, HasJust, ExtendsSeen}

-- a desk can be shared by so many planners
abbrev pub MayShare : ℕ → Type 0
MayShare planners = (1 ≤ planners) × (planners ≤ MOST_PLANNERS)

-- why a desk isn't shared
abbrev pub Unshared : ℕ → ShareFault → Type 0
Unshared planners BadPlanners = MayShare planners → ⊥
Unshared planners OutOfMemory = MayShare planners

-- the pass may give away the numbers from 1 up to that one, and no others
abbrev pub HasNumbers : ℕ → List Bool → Type 0
HasNumbers planners unused = (number : ℕ) → (slice_index_or unused number false ≡ true → (1 ≤ number) × (number < planners)) × (1 ≤ number → number < planners → slice_index_or unused number false ≡ true)

-- the first pass: it has seen the desk's journal, has number 0, and keeps the others
pub record IsFirst (desk : DeskState) (planners : ℕ) (pass : PassState) : Type 0 where
  pub start : pass.start ≡ desk
  pub shared : pass.planners ≡ planners
  pub made : pass.made ≡ []
  pub floor : pass.floor ≡ 0
  pub planner : pass.planner ≡ 0
  pub unused : HasNumbers planners pass.unused
  pub past : pass.past ≡ []

-- a call after which the pass may have seen more, and is the same besides
pub record IsSame (old new : PassState) : Type 0 where
  pub start : new.start ≡ old.start
  pub shared : new.planners ≡ old.planners
  pub floor : new.floor ≡ old.floor
  pub planner : new.planner ≡ old.planner
  pub unused : new.unused ≡ old.unused
  pub past : new.past ≡ old.past

-- entries followed by the commit, if it was accepted
abbrev pub with_accepted : List Entry → Entry → Result ℕ (Refusal × Entry) → List Entry
with_accepted made commit (Ok version) = made ++ commit ∷ []
with_accepted made commit (Err refused) = made

-- a commit through a pass: the answer is the desk's at a journal that goes on from what the pass had seen. The pass has then seen that journal, and after it the commit where it was accepted
pub record CommitsBy (old : PassState) (commit : Entry) (answer : Result ℕ (Refusal × Entry)) (new : PassState) : Type 0 where
  pub same : IsSame old new
  pub found : List Entry
  pub goes_on : ExtendsSeen old found
  pub seen : new.made ≡ with_accepted found commit answer
  pub answered : Committed (after old.start found) commit answer (after old.start new.made)
  pub own : own_of old.planner new.made ≡ with_accepted (own_of old.planner old.made) commit answer

-- the commit is the last entry that the pass has seen, and its number is the length of the journal
pub record IsLastSeen (pass : PassState) (commit : Entry) (number : ℕ) : Type 0 where
  pub numbered : number ≡ version_at pass.start pass.made
  pub before : List Entry
  pub last : pass.made ≡ before ++ commit ∷ []

-- a question through a pass: the answer is the desk's at a journal that goes on from what the pass had seen, and that it has then seen
pub record AsksBy (old : PassState) (IsAnswer : DeskState → Type 0) (new : PassState) : Type 0 where
  pub same : IsSame old new
  pub goes_on : ExtendsSeen old new.made
  pub answered : IsAnswer (after old.start new.made)

-- the pass with that floor
abbrev pub with_floor : PassState → ℕ → PassState
with_floor pass floor = record { start = pass.start; planners = pass.planners; made = pass.made; floor = floor; planner = pass.planner; unused = pass.unused; past = pass.past }

-- a front: the length of a journal that goes on from what the pass has seen. It is the floor then, and nothing else changes
pub record IsFront (old : PassState) (front : ℕ) (new : PassState) : Type 0 where
  pub new_floor : new ≡ with_floor old front
  pub no_less : old.floor ≤ front
  pub found : List Entry
  pub goes_on : ExtendsSeen old found
  pub told : front ≡ version_at old.start found

-- the pass has no number to give away
abbrev pub KeepsNone : PassState → Type 0
KeepsNone pass = (number : ℕ) → slice_index_or pass.unused number false ≡ false

-- the least number that the pass may give away
pub record IsLeast (pass : PassState) (number : ℕ) : Type 0 where
  pub kept : MayGive pass number
  pub least : (lesser : ℕ) → lesser < number → slice_index_or pass.unused lesser false ≡ false

-- a pass split off: it has the least number that the first kept, and has seen what the first has
pub record IsSplit (old new other : PassState) : Type 0 where
  pub number : IsLeast old other.planner
  pub given : new ≡ record { start = old.start; planners = old.planners; made = old.made; floor = old.floor; planner = old.planner; unused = slice_set old.unused other.planner false; past = old.past }
  pub start : other.start ≡ old.start
  pub shared : other.planners ≡ old.planners
  pub made : other.made ≡ old.made
  pub floor : other.floor ≡ old.floor
  pub keeps_none : KeepsNone other
  pub no_entries : own_of other.planner other.made ≡ []
  pub no_past : other.past ≡ []
  pub apart : other.planner ≢ old.planner

-- the numbers of both
abbrev pub either_of : List Bool → List Bool → List Bool
either_of [] ys = ys
either_of (x ∷ xs) [] = x ∷ xs
either_of (x ∷ xs) (y ∷ ys) = (x || y) ∷ either_of xs ys

-- a pass after another was joined into it: it has seen the longer one of what the two had, which the other begins, with no further entries of theirs. It has the numbers of both, and what was joined into either
pub record IsJoinOf (old other new : PassState) : Type 0 where
  pub start : new.start ≡ old.start
  pub one_desk : other.start ≡ old.start
  pub shared : new.planners ≡ old.planners
  pub planner : new.planner ≡ old.planner
  pub floor : new.floor ≡ max old.floor other.floor
  pub one_of_both : (new.made ≡ old.made) ⊎ (new.made ≡ other.made)
  pub seen : IsPrefix old.made new.made
  pub others : IsPrefix other.made new.made
  pub own : own_of old.planner new.made ≡ own_of old.planner old.made
  pub own_of_other : own_of other.planner new.made ≡ own_of other.planner other.made
  pub numbered : AreOfPlanners new.planners new.made
  pub unused : new.unused ≡ either_of old.unused other.unused
  pub past : new.past ≡ old.past ++ (other.planner, own_of other.planner other.made) ∷ other.past
  pub kept : All (HasJust new.made) new.past
  pub apart : All (λ numbered. numbered.0 ≢ new.planner) new.past

-- a desk at the end of its sharing: its journal goes on from what the pass had seen
pub record IsDeskAtClose (pass : PassState) (desk : DeskState) : Type 0 where
  pub found : List Entry
  pub goes_on : ExtendsSeen pass found
  pub desk_is : desk ≡ after pass.start found
