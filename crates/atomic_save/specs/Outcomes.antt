-- What stands under a file's name, and what the end of the process or of the machine may leave there (this project's choice;
-- POSIX.1-2017, rename and fsync, is what the calls are named after).
use Rattle.std.specs.Prelude.{◌≡◌, ◌⊎◌, ℕ, ◌≤◌, List, Option, Some, Result, Ok, Err, ⊤}
use Rattle.atomic_save.specs.declared.saves.SaveError.{SaveError}
use Rattle.atomic_save.specs.declared.saves.SaveError.TheVariants.{NotWritten, NotRenamed, NotDurable}

-- what a name has: the bytes of a file, or none
abbrev pub Content : Type 0
Content = Option (List ℕ)

-- an end leaves this and nothing else
abbrev pub Only : Content → (Content → Type 0) → Type 0
Only content outcomes = (c : Content) → outcomes c → c ≡ content

-- each outcome now was one before
abbrev pub Within : (Content → Type 0) → (Content → Type 0) → Type 0
Within old new = (c : Content) → new c → old c

-- after the temporary file took the name: what could be left before, or what could be kept of the temporary file
abbrev pub Replaced : (Content → Type 0) → (Content → Type 0) → (Content → Type 0) → Type 0
Replaced old kept new = (c : Content) → new c → old c ⊎ kept c

-- Time goes on: an end since t might have left what it might have left before, or what it may leave now.
pub record Elapses (before now : ℕ) (past since : ℕ → Content → Type 0) (may_leave : Content → Type 0) : Type 0 where
  pub later : before ≤ now
  pub nothing_else : (t : ℕ) (c : Content) → t ≤ before → since t c → past t c ⊎ may_leave c
  pub keeps : (t : ℕ) (c : Content) → t ≤ before → past t c → since t c

-- An end at any moment since old leaves content that has P.
pub record LeavesOnly {S : Type 0} (moment : S → ℕ) (left_since : S → ℕ → Content → Type 0) (old new : S) (P : Content → Type 0) : Type 0 where
  pub later : moment old ≤ moment new
  pub each : (c : Content) → left_since new (moment old) c → P c

-- the content from before, or the new bytes
abbrev pub IsOldOrNew : Content → List ℕ → Content → Type 0
IsOldOrNew old bytes c = (c ≡ old) ⊎ (c ≡ Some bytes)

-- what whoever opens the file finds after a save: the new bytes once they have the name, and before that the old content
abbrev pub IsFoundInFile : Content → List ℕ → Result Unit SaveError → Content → Type 0
IsFoundInFile old bytes (Ok done) c = c ≡ Some bytes
IsFoundInFile old bytes (Err NotWritten) c = c ≡ old
IsFoundInFile old bytes (Err NotRenamed) c = c ≡ old
IsFoundInFile old bytes (Err NotDurable) c = c ≡ Some bytes
