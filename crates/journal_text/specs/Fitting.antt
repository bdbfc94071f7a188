-- How lines fit in an entry (this project's choice).
use Rattle.std.specs.Prelude.{◌≡◌, ℕ, Bool, true, false, List, ◌++◌, length, nat_le}
use Rattle.desk_commits.specs.Entries.{Entry}
use Rattle.journal_text.specs.Ranges.{IsEntry}
use Rattle.journal_text.specs.Lines.{entry_lines, text_of}
use Rattle.journal_text.specs.declared.fitting.Fit.{Fit}
use Rattle.journal_text.specs.declared.fitting.Fit.TheVariants.{Whole, Begun, Bad}
use Rattle.journal_text.specs.declared.places.Place.{Place}
use Rattle.journal_text.specs.declared.places.Place.TheVariants.{Start, Versioned, Between, Inside, Over}

-- the text is that of an entry
abbrev pub IsEntryOf : List ℕ → Entry → Type 0
IsEntryOf text entry = IsEntry entry × (text ≡ text_of (entry_lines entry))

-- the text is that of the first lines of an entry
pub record IsFrontOfEntry (text : List ℕ) : Type 0 where
  pub entry : Entry
  pub lawful : IsEntry entry
  pub lines : List (List (List ℕ))
  pub others : List (List (List ℕ))
  pub split : entry_lines entry ≡ lines ++ others
  pub is : text ≡ text_of lines

-- what is whole is the text of an entry, what is begun of none, and what is bad is the front of none
abbrev pub FitsSo : List ℕ → Fit → Type 0
FitsSo text Whole = (entry : Entry) × IsEntryOf text entry
FitsSo text Begun = (entry : Entry) → IsEntryOf text entry → ⊥
FitsSo text (Bad line) = IsFrontOfEntry text → ⊥

-- behind a heading, lines of one entry at most lead there
abbrev pub is_in_one : Place → Bool
is_in_one Start = false
is_in_one Versioned = false
is_in_one (Between heading entries) = nat_le (length entries) 1
is_in_one (Inside heading entries entry) = true
is_in_one (Over heading entries) = false
