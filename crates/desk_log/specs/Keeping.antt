-- A desk's entries in a log, and what a crash leaves of them (this project's choice).
use Rattle.std.specs.Prelude.{◌≡◌, ℕ, List, ◌++◌, map, Option, Some}
use Rattle.desk_commits.specs.Entries.{Entry}
use Rattle.journal_text.specs.Lines.{entry_lines, text_of}
use Rattle.commit_log.specs.Text.{log_text}
use Rattle.commit_log.specs.Crashes.{Counts, IsLogOf, MayLeave}

-- the texts of entries, as in a journal
abbrev pub texts_of : List Entry → List (List ℕ)
texts_of entries = map (λ entry. text_of (entry_lines entry)) entries

-- the log has that head, these entries and nothing else, and a crash leaves them all
pub record IsLogged (head : List ℕ) (text kept : Option (List ℕ)) (count : ℕ) (check : List ℕ) (journal : List Entry) : Type 0 where
  pub counts : Counts head (texts_of journal) count check
  pub text_is : text ≡ Some (log_text head (texts_of journal))
  pub kept_is : kept ≡ text

-- what a crash leaves stands for the entries before, and maybe the first of those since
pub record LeavesEntries (head left : List ℕ) (before journal : List Entry) : Type 0 where
  pub more : List Entry
  pub lost : List Entry
  pub front : journal ≡ before ++ (more ++ lost)
  pub stands : IsLogOf head (texts_of (before ++ more)) left

-- and so whatever a crash leaves
pub record IsLoggedInPart (head : List ℕ) (text kept : Option (List ℕ)) (before journal : List Entry) : Type 0 where
  pub leaves : (left : List ℕ) → MayLeave kept text left → LeavesEntries head left before journal
