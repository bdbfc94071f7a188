-- Where a reader of a journal is, and what each line that fits there leads to (this project's choice).
use Rattle.std.specs.Prelude.{◌≡◌, ◌⊎◌, ◌<◌, ◌≤◌, ◌||◌, ℕ, true, List, [], ◌∷◌, ◌++◌, length, Option, Some, None, codes, All, if◌then◌else◌}
use Rattle.plan_table.specs.declared.tracks.Mode.{Mode}
use Rattle.scene_edits.specs.declared.changes.Thing.{Thing}
use Rattle.scene_edits.specs.declared.edits.Edit.{Edit}
use Rattle.desk_report.specs.LineText.{line_text}
use Rattle.desk_commits.specs.Entries.{Entry}
use Rattle.desk_commits.specs.declared.limits.TheConstants.{MOST_ENTRIES}
use Rattle.journal_text.specs.Ranges.{IsThing, IsEdit, IsEntry}
use Rattle.journal_text.specs.Lines.{watch_words, edit_words, version_words, mode_words, end_words}
use Rattle.journal_text.specs.Begun.{IsHead, head_words, fresh, lacks_watch, lacks_edit, entry_of, IsBegun}
use Rattle.journal_text.specs.declared.places.Heading.{Heading}
use Rattle.journal_text.specs.declared.places.Heading.TheVariants.{First, Second}
use Rattle.journal_text.specs.declared.places.Head.{Head}
use Rattle.journal_text.specs.declared.places.Begun.{Begun}
use Rattle.journal_text.specs.declared.places.Place.{Place}
use Rattle.journal_text.specs.declared.places.Place.TheVariants.{Start, Versioned, Between, Inside, Over}

-- inside the entry, or behind it where it lacks nothing
abbrev pub settled : Heading → List Entry → Begun → Place
settled heading entries entry = if lacks_watch entry || lacks_edit entry then Inside heading entries entry else Between heading (entries ++ entry_of entry ∷ [])

-- the line begins an entry
pub record BeginsEntry (heading : Heading) (entries : List Entry) (words : List (List ℕ)) (next : Place) : Type 0 where
  pub head : Head
  pub numbers : IsHead head
  pub room : length entries < MOST_ENTRIES
  pub line : words ≡ head_words head
  pub leads : next ≡ settled heading entries (fresh head)

-- the line is a watch
pub record Watches (heading : Heading) (entries : List Entry) (entry : Begun) (words : List (List ℕ)) (next : Place) : Type 0 where
  pub thing : Thing
  pub lawful : IsThing thing
  pub due : length entry.watch < entry.head.watches
  pub line : words ≡ watch_words thing
  pub leads : next ≡ settled heading entries (record entry { watch = entry.watch ++ thing ∷ [] })

-- the line is an edit
pub record Edits (heading : Heading) (entries : List Entry) (entry : Begun) (words : List (List ℕ)) (next : Place) : Type 0 where
  pub edit : Edit
  pub lawful : IsEdit edit
  pub watched : entry.head.watches ≤ length entry.watch
  pub due : length entry.edits < entry.head.edits
  pub line : words ≡ edit_words edit
  pub leads : next ≡ settled heading entries (record entry { edits = entry.edits ++ edit ∷ [] })

-- from a place, the line of these words leads to the next
abbrev pub Steps : Place → List (List ℕ) → Place → Type 0
Steps Start words next = ((words ≡ version_words (codes "1")) × (next ≡ Between First [])) ⊎ ((words ≡ version_words (codes "2")) × (next ≡ Versioned))
Steps Versioned words next = (mode : Mode) × (words ≡ mode_words mode) × (next ≡ Between (Second mode) [])
Steps (Between heading entries) words next = BeginsEntry heading entries words next ⊎ ((words ≡ end_words (length entries)) × (next ≡ Over heading entries))
Steps (Inside heading entries entry) words next = Watches heading entries entry words next ⊎ Edits heading entries entry words next
Steps (Over heading entries) words next = ⊥

-- a place that lines lead to
abbrev pub IsPlace : Place → Type 0
IsPlace Start = Unit {0}
IsPlace Versioned = Unit {0}
IsPlace (Between heading entries) = (length entries ≤ MOST_ENTRIES) × All IsEntry entries
IsPlace (Inside heading entries entry) = (length entries < MOST_ENTRIES) × All IsEntry entries × IsBegun entry × ((lacks_watch entry || lacks_edit entry) ≡ true)
IsPlace (Over heading entries) = (length entries ≤ MOST_ENTRIES) × All IsEntry entries

-- the line, without its line feed, is that of the value, or of no value that is lawful
abbrev pub IsLineOf : {A : Type 0} → (A → Type 0) → (A → List (List ℕ)) → List ℕ → Option A → Type 0
IsLineOf IsLawful words line (Some value) = IsLawful value × (line_text (words value) ≡ line ++ codes "\n")
IsLineOf {A} IsLawful words line None = (value : A) → IsLawful value → line_text (words value) ≡ line ++ codes "\n" → ⊥

-- where a line leads, if it fits
abbrev pub LeadsTo : Place → List ℕ → Option Place → Type 0
LeadsTo place line (Some next) = (words : List (List ℕ)) × (line_text words ≡ line ++ codes "\n") × Steps place words next
LeadsTo place line None = (words : List (List ℕ)) (next : Place) → line_text words ≡ line ++ codes "\n" → Steps place words next → ⊥
