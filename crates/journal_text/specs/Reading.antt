-- What a text reads as: the journal whose text it is, or the first line that doesn't fit (this project's choice).
use Rattle.std.specs.Prelude.{◌≡◌, ◌⊎◌, ◌<◌, ◌≤◌, ◌+◌, ◌-◌, ℕ, List, ◌++◌, length, slice_get, Some, Result, Ok, Err}
use Rattle.plan_table.specs.declared.tracks.Mode.{Mode}
use Rattle.plan_table.specs.declared.tracks.Mode.TheVariants.{Stay}
use Rattle.desk_commits.specs.Entries.{Entry}
use Rattle.desk_commits.specs.Replays.{Log}
use Rattle.journal_text.specs.Ranges.{IsJournal}
use Rattle.journal_text.specs.Lines.{entry_lines, journal_lines, text_of, journal_text, first_text}
use Rattle.journal_text.specs.declared.places.Heading.{Heading}
use Rattle.journal_text.specs.declared.places.Heading.TheVariants.{First, Second}
use Rattle.journal_text.specs.declared.faults.JournalFault.{JournalFault}
use Rattle.journal_text.specs.declared.faults.JournalFault.TheVariants.{BadLine, OutOfMemory}

-- the text of version 2 of that journal, or, its mode being Stay, that of version 1
abbrev pub IsTextOf : Log → List ℕ → Type 0
IsTextOf log text = (text ≡ journal_text log.mode log.entries) ⊎ ((log.mode ≡ Stay) × (text ≡ first_text log.entries))

-- the mode that a heading tells: in version 1 it is Stay
abbrev pub mode_of : Heading → Mode
mode_of First = Stay
mode_of (Second mode) = mode

-- the text begins with the first n lines of a journal's text
pub record Begins (text : List ℕ) (n : ℕ) : Type 0 where
  pub heading : Heading
  pub entries : List Entry
  pub lawful : IsJournal (record { mode = mode_of heading; entries = entries })
  pub lines : List (List (List ℕ))
  pub others : List (List (List ℕ))
  pub split : journal_lines heading entries ≡ lines ++ others
  pub count : length lines ≡ n
  pub rest : List ℕ
  pub begins : text ≡ text_of lines ++ rest

-- the text is no journal's text, and it begins with the lines before this one of a journal's text, and with no more of any
pub record IsFaultyLine (text : List ℕ) (line : ℕ) : Type 0 where
  pub fit : ℕ
  pub number : line ≡ fit + 1
  pub begins : Begins text fit
  pub most : (n : ℕ) → Begins text n → n ≤ fit
  pub other : (log : Log) → IsJournal log → IsTextOf log text → ⊥

-- what a text reads as
abbrev pub ReadsAs : List ℕ → Result Log JournalFault → Type 0
ReadsAs text (Ok log) = IsJournal log × IsTextOf log text
ReadsAs text (Err (BadLine line)) = IsFaultyLine text line
ReadsAs text (Err OutOfMemory) = Unit {0}

-- the text of version 2 of what a text reads as, or its fault
abbrev pub UpgradesTo : List ℕ → Result (List ℕ) JournalFault → Type 0
UpgradesTo text (Ok new) = (log : Log) × ReadsAs text (Ok log) × (new ≡ journal_text log.mode log.entries)
UpgradesTo text (Err fault) = ReadsAs text (Err fault)

-- the lines of the entry of that number, counted from 1, of the journal that the text reads as
pub record IsEntryText (text : List ℕ) (number : ℕ) (lines : List ℕ) : Type 0 where
  pub log : Log
  pub reads : ReadsAs text (Ok log)
  pub entry : Entry
  pub stands : slice_get log.entries (number - 1) ≡ Some entry
  pub counted : 0 < number
  pub written : lines ≡ text_of (entry_lines entry)
