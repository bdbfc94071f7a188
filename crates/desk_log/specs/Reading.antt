-- What a log reads as (this project's choice).
use Rattle.std.specs.Prelude.{◌≡◌, ◌≢◌, ◌<◌, ◌≤◌, ℕ, ◌+◌, true, List, [], ◌++◌, length, codes, All}
use Rattle.plan_table.specs.declared.tracks.Mode.{Mode}
use Rattle.desk_report.specs.LineText.{line_text}
use Rattle.desk_commits.specs.Entries.{Entry}
use Rattle.desk_commits.specs.declared.limits.TheConstants.{MOST_ENTRIES}
use Rattle.journal_text.specs.Ranges.{IsEntry}
use Rattle.journal_text.specs.Lines.{version_words, mode_words, entry_lines, text_of, journal_text}
use Rattle.commit_log.specs.Text.{sealed, head_text, is_digest, log_text}
use Rattle.commit_log.specs.Reads.{IsUnsealed}
use Rattle.commit_log.specs.Crashes.{Counts}
use Rattle.desk_log.specs.Keeping.{texts_of}
use Rattle.desk_log.specs.declared.reading.LogRead.{LogRead}

-- the first lines of a journal in that mode
abbrev pub heading_text : Mode → List ℕ
heading_text mode = line_text (version_words (codes "2")) ++ line_text (mode_words mode)

-- the text is a front of that head, and not the whole of it
pub record IsTornHead (text head : List ℕ) : Type 0 where
  pub lost : List ℕ
  pub shorter : length text < length head
  pub is : head ≡ text ++ lost

-- the entries whose commit lines stand in the text, and behind the last of them a piece of one more; what they make is that journal
pub record IsRead (text : List ℕ) (log : LogRead) : Type 0 where
  pub entries : List Entry
  pub lawful : All IsEntry entries
  pub few : length entries ≤ MOST_ENTRIES
  pub scene : is_digest log.scene ≡ true
  pub counts : Counts (head_text log.mode log.scene) (texts_of entries) log.count log.check
  pub rest : List ℕ
  pub unsealed : IsUnsealed rest
  pub split : text ≡ log_text (head_text log.mode log.scene) (texts_of entries) ++ rest
  pub ends : log.end + length rest ≡ length text
  pub journal : log.journal.items ≡ journal_text log.mode entries

-- a head, and a front of what stands behind it in a log of lawful entries
pub record IsFrontOfLog (text : List ℕ) : Type 0 where
  pub mode : Mode
  pub scene : List ℕ
  pub entries : List Entry
  pub digest : is_digest scene ≡ true
  pub lawful : All IsEntry entries
  pub few : length entries ≤ MOST_ENTRIES
  pub more : List ℕ
  pub lost : List ℕ
  pub begins : text ≡ head_text mode scene ++ more
  pub front : log_text (head_text mode scene) (texts_of entries) ≡ text ++ lost

-- a front of an entry with its commit line, and not the whole of it
pub record IsTear (text : List ℕ) (number : ℕ) (before : List ℕ) : Type 0 where
  pub entry : Entry
  pub lawful : IsEntry entry
  pub lost : List ℕ
  pub some : lost ≢ []
  pub front : sealed number before (text_of (entry_lines entry)) ≡ text ++ lost
