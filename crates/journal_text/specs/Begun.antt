-- An entry, as far as its lines are read (this project's choice).
use Rattle.std.specs.Prelude.{◌≡◌, ◌<◌, ◌≤◌, ℕ, Bool, List, [], length, nat_lt, All}
use Rattle.desk_commits.specs.Entries.{Entry}
use Rattle.journal_text.specs.Ranges.{IsThing, IsEdit, AreNumbers}
use Rattle.journal_text.specs.Lines.{entry_words}
use Rattle.journal_text.specs.declared.places.Head.{Head}
use Rattle.journal_text.specs.declared.places.Begun.{Begun}

-- the first line of an entry
abbrev pub IsHead : Head → Type 0
IsHead head = AreNumbers head.planner head.base head.watches head.edits

abbrev pub head_words : Head → List (List ℕ)
head_words head = entry_words head.planner head.base head.watches head.edits

-- an entry of which no watch and no edit is read
abbrev pub fresh : Head → Begun
fresh head = record { head = head; watch = []; edits = [] }

-- a line of the entry is still to come
abbrev pub lacks_watch : Begun → Bool
lacks_watch entry = nat_lt (length entry.watch) entry.head.watches

abbrev pub lacks_edit : Begun → Bool
lacks_edit entry = nat_lt (length entry.edits) entry.head.edits

-- the entry as it is read so far
abbrev pub entry_of : Begun → Entry
entry_of entry = record { planner = entry.head.planner; base = entry.head.base; watch = entry.watch; edits = entry.edits }

-- an entry of which some lines are read
pub record IsBegun (entry : Begun) : Type 0 where
  pub numbers : IsHead entry.head
  pub watched : length entry.watch ≤ entry.head.watches
  pub edited : length entry.edits ≤ entry.head.edits
  pub order : length entry.watch < entry.head.watches → entry.edits ≡ []
  pub watch : All IsThing entry.watch
  pub edits : All IsEdit entry.edits
