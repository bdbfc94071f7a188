-- What a log begins with, and a text behind a head or a commit line.
use Rattle.std.specs.Prelude.{◌≡◌, ◌≢◌, ℕ, true, List, ◌∷◌, ◌++◌, length}
use Rattle.std.specs.List.{list_all}
use Rattle.commit_log.specs.Lines.{is_one_line, begins_commit, is_entry_line, lines_text, IsBody}
use Rattle.commit_log.specs.Text.{check_of, commit_words, sealed, head_check, head_text, is_digest}
use Rattle.plan_table.specs.declared.tracks.Mode.{Mode}
use Rattle.commit_log.specs.declared.reading.ReadFault.{ReadFault}
use Rattle.commit_log.specs.declared.reading.ReadFault.TheVariants.{Damaged, OutOfMemory}

-- a head
pub record BeginsHead (text : List ℕ) (mode : Mode) (scene check rest : List ℕ) : Type 0 where
  pub digest : is_digest scene ≡ true
  pub check_is : check ≡ head_check (head_text mode scene)
  pub is : text ≡ head_text mode scene ++ rest

-- no head of that mode, whatever its scene
abbrev pub BeginsNoHead : List ℕ → Mode → Type 0
BeginsNoHead text mode = (scene rest : List ℕ) → is_digest scene ≡ true → text ≢ head_text mode scene ++ rest

-- an entry with the commit line of that number, behind that CHECK
pub record BeginsSealed (text : List ℕ) (number : ℕ) (before entry check rest : List ℕ) : Type 0 where
  pub lines : IsBody entry
  pub check_is : check ≡ check_of before entry
  pub is : text ≡ sealed number before entry ++ rest

-- lines of an entry, and a piece of a line: there is no commit line
pub record IsUnsealed (text : List ℕ) : Type 0 where
  pub lines : List (List ℕ)
  pub piece : List ℕ
  pub sound : list_all is_entry_line lines ≡ true
  pub part : is_one_line piece ≡ true
  pub is : text ≡ lines_text lines ++ piece

-- behind lines of an entry, from that byte on, a commit line that is not the one that is due
pub record IsDamagedAt (text : List ℕ) (number : ℕ) (before : List ℕ) (at : ℕ) : Type 0 where
  pub lines : List (List ℕ)
  pub line : List ℕ
  pub more : List ℕ
  pub sound : list_all is_entry_line lines ≡ true
  pub single : is_one_line line ≡ true
  pub begins : begins_commit line ≡ true
  pub other : line ≢ commit_words number (check_of before (lines_text lines))
  pub is : text ≡ lines_text lines ++ (line ++ 10 ∷ more)
  pub at_is : at ≡ length (lines_text lines)

-- why no entry is read
abbrev pub FaultIs : List ℕ → ℕ → List ℕ → ReadFault → Type 0
FaultIs text number before (Damaged at) = IsDamagedAt text number before at
FaultIs text number before OutOfMemory = Unit {0}
