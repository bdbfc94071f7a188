-- Stale commits: an entry that the planner hasn't seen names one of the commit's things (this project's choice).
use Rattle.std.specs.Prelude.{◌≡◌, ℕ, ◌-◌, ◌<◌, Some, List, slice_get}
use Rattle.scene_edits.specs.declared.changes.Thing.{Thing}
use Rattle.desk_commits.specs.Entries.{Entry, EntryNames, things_of}

-- the entry of that number names the thing. Entries count from 1
pub record IsNamedAt (journal : List Entry) (thing : Thing) (number : ℕ) : Type 0 where
  pub entry : Entry
  pub counted : 0 < number
  pub there : slice_get journal (number - 1) ≡ Some entry
  pub names : EntryNames entry thing

-- no entry after that version names the thing
abbrev pub IsFreshSince : List Entry → ℕ → Thing → Type 0
IsFreshSince journal base thing = (number : ℕ) → base < number → IsNamedAt journal thing number → ⊥

-- the last entry that names the thing, which is one after that version
pub record IsLastNaming (journal : List Entry) (base : ℕ) (thing : Thing) (number : ℕ) : Type 0 where
  pub newer : base < number
  pub named : IsNamedAt journal thing number
  pub last : IsFreshSince journal number thing

-- the first thing of a stale commit, and the last entry that names it
pub record IsStaleBy (journal : List Entry) (commit : Entry) (thing : Thing) (number : ℕ) : Type 0 where
  pub rank : ℕ
  pub told : slice_get (things_of commit) rank ≡ Some thing
  pub first : (earlier : ℕ) (other : Thing) → earlier < rank → slice_get (things_of commit) earlier ≡ Some other → IsFreshSince journal commit.base other
  pub last : IsLastNaming journal commit.base thing number

-- the commit isn't stale
abbrev pub IsFresh : List Entry → Entry → Type 0
IsFresh journal commit = (rank : ℕ) (thing : Thing) → slice_get (things_of commit) rank ≡ Some thing → IsFreshSince journal commit.base thing
