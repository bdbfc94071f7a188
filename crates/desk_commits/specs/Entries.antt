-- Entries of a journal: commits as data, and what they name.
use Rattle.std.specs.Prelude.{◌≡◌, ℕ, ◌<◌, ◌≤◌, ◌⊎◌, List, ◌++◌, length, map, Any}
use Rattle.scene_edits.specs.declared.changes.Thing.{Thing}
use Rattle.scene_edits.specs.declared.changes.Thing.TheVariants as things
use Rattle.scene_edits.specs.declared.edits.Edit.{Edit}
use Rattle.scene_edits.specs.declared.edits.Edit.TheVariants.{Add, Drop, Goal, Path, Tail, Open, Close}
use Rattle.desk_commits.specs.declared.commits.TheConstants.{MOST_EDITS, MOST_WATCHES}
use Rattle.desk_commits.specs.declared.commits.CommitFault.{CommitFault}
use Rattle.desk_commits.specs.declared.commits.CommitFault.TheVariants.{TooManyWatches, TooManyEdits}

-- a commit: who asks for it, the version that it was made on, what it watches, and its edits
pub record Entry : Type 0 where
  pub planner : ℕ
  pub base : ℕ
  pub watch : List Thing
  pub edits : List Edit

-- the first fault of the lists of a commit
abbrev pub ExplainsCommit : List Thing → List Edit → CommitFault → Type 0
ExplainsCommit watch edits TooManyWatches = MOST_WATCHES < length watch
ExplainsCommit watch edits TooManyEdits = (length watch ≤ MOST_WATCHES) × (MOST_EDITS < length edits)

-- the agent or the cell that an edit is about
abbrev pub thing_of : Edit → Thing
thing_of (Add agent start goal) = things.Agent agent
thing_of (Drop agent) = things.Agent agent
thing_of (Goal agent goal) = things.Agent agent
thing_of (Path agent cells) = things.Agent agent
thing_of (Tail agent from cells) = things.Agent agent
thing_of (Open cell) = things.Cell cell
thing_of (Close cell) = things.Cell cell

-- an edit of a cell changes the map
abbrev pub ChangesMap : Edit → Type 0
ChangesMap (Add agent start goal) = ⊥
ChangesMap (Drop agent) = ⊥
ChangesMap (Goal agent goal) = ⊥
ChangesMap (Path agent cells) = ⊥
ChangesMap (Tail agent from cells) = ⊥
ChangesMap (Open cell) = Unit {0}
ChangesMap (Close cell) = Unit {0}

-- an edit names its agent or its cell, and the map where it changes it
abbrev pub NamesThing : Thing → Edit → Type 0
NamesThing thing edit = (thing_of edit ≡ thing) ⊎ ((thing ≡ things.Map) × ChangesMap edit)

-- an entry names what one of its edits names (this project's choice)
abbrev pub EntryNames : Entry → Thing → Type 0
EntryNames entry thing = Any (NamesThing thing) entry.edits

-- the things of a commit: its watches in order, then the agent or cell of each edit in order
abbrev pub things_of : Entry → List Thing
things_of commit = commit.watch ++ map thing_of commit.edits
