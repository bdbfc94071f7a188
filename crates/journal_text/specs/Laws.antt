-- Laws of the texts of journals (consequences of the definitions).
use Rattle.std.specs.Prelude.{◌≡◌, ◌≢◌, ◌⊎◌, List, ℕ, Result, Ok, Err}
use Rattle.desk_commits.specs.Replays.{Log}
use Rattle.journal_text.specs.Ranges.{IsJournal}
use Rattle.journal_text.specs.Reading.{IsTextOf, ReadsAs}
use Rattle.journal_text.specs.declared.faults.JournalFault.{JournalFault}
use Rattle.journal_text.specs.declared.faults.JournalFault.TheVariants.{OutOfMemory}

-- but for want of memory, a text reads as one journal or has one fault
abbrev pub OneReading : Type 0
OneReading = (text : List ℕ) (a b : Result Log JournalFault) → a ≢ Err OutOfMemory → b ≢ Err OutOfMemory → ReadsAs text a → ReadsAs text b → a ≡ b

-- but for want of memory, the text of a journal, of either version, reads as that journal
abbrev pub ReadsBack : Type 0
ReadsBack = (log : Log) (text : List ℕ) (result : Result Log JournalFault) → IsJournal log → IsTextOf log text → ReadsAs text result → (result ≡ Ok log) ⊎ (result ≡ Err OutOfMemory)
