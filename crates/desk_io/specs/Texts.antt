-- Which file's bytes a text is (this project's choice).
use Rattle.std.specs.Prelude.{◌≡◌, ◌⊎◌, ℕ, List, Option, Some, None, Vec, Bool, true, false, codes, nat_eq, option_map}
use Rattle.std.specs.Borrow.{Bor}
use Rattle.std.specs.List.{AllZip, starts_with}
use Rattle.desk_log.specs.Reading.{IsRead}
use Rattle.desk_log.specs.declared.reading.LogRead.{LogRead}
use Rattle.std.specs.Global.{Global}
use Rattle.solver_check.specs.declared.faults.Fault.{Fault}
use Rattle.solver_check.specs.declared.faults.Fault.TheVariants.{CannotRead, CannotWrite, InUse, Run}
use Rattle.solver_check.specs.declared.faults.RunFault.TheVariants.{Journal, OutOfMemory}
use Rattle.journal_text.specs.declared.faults.JournalFault.TheVariants.{BadLine}
use Rattle.desk_io.specs.declared.named.Named.{Named}

-- the bytes are those that are told of the file
abbrev pub IsTold : Option (List ℕ) → List ℕ → Type 0
IsTold None bytes = Unit {0}
IsTold (Some told) bytes = bytes ≡ told

-- the text is that of the file, where one is named, and else there is none
abbrev pub IsText : (List ℕ → Option (List ℕ)) → Option (List ℕ) → Option (List ℕ) → Type 0
IsText holds None None = Unit {0}
IsText holds None (Some text) = ⊥
IsText holds (Some file) None = ⊥
IsText holds (Some file) (Some text) = IsTold (holds file) text

-- a text that begins as a log reads as the journal that its entries make, and any other stays
abbrev pub ReadsBy : (is_log : Bool) → (bytes text : List ℕ) → Type 0
ReadsBy true bytes text = (log : LogRead) × IsRead bytes log × (text ≡ log.journal.items)
ReadsBy false bytes text = text ≡ bytes

abbrev pub begins_as_log : List ℕ → Bool
begins_as_log bytes = starts_with nat_eq bytes (codes "log ")

abbrev pub ReadsAsJournal : (bytes text : List ℕ) → Type 0
ReadsAsJournal bytes text = ReadsBy (begins_as_log bytes) bytes text

-- the text is the journal that the bytes which are told of the file read as
abbrev pub IsJournalTold : Option (List ℕ) → List ℕ → Type 0
IsJournalTold told text = (bytes : List ℕ) × IsTold told bytes × ReadsAsJournal bytes text

-- the text is that of the journal, where one is named, and else that of the paths
abbrev pub IsCourses : (List ℕ → Option (List ℕ)) → (journal paths text : Option (List ℕ)) → Type 0
IsCourses holds None paths text = IsText holds paths text
IsCourses holds (Some file) paths None = ⊥
IsCourses holds (Some file) paths (Some text) = IsJournalTold (holds file) text

-- the texts are those of the files of these names, each in its place
pub record AreTexts (holds : List ℕ → Option (List ℕ)) (map scen journal paths : Option (List ℕ)) (named : Named) : Type 0 where
  pub map_text : IsText holds map (option_map (λ b. b.items) named.map)
  pub scen_text : IsText holds scen (option_map (λ b. b.items) named.scen)
  pub courses_text : IsCourses holds journal paths (option_map (λ b. b.items) named.journal)

-- the texts are those of these files, in their order
abbrev pub AreTold : (List ℕ → Option (List ℕ)) → List (Bor (List ℕ)) → List (Vec ℕ Global) → Type 0
AreTold holds = AllZip (λ file bytes. IsTold (holds file.now) bytes.items)

-- the system tells the bytes of no file
abbrev pub untold : List ℕ → Option (List ℕ)
untold file = None

-- why a file of that name isn't read: it is told, or memory was wanting
abbrev pub IsUnread : List ℕ → Fault → Type 0
IsUnread file (CannotRead unread) = unread.now ≡ file
IsUnread file (Run why) = why ≡ OutOfMemory
IsUnread file other = ⊥

-- the bytes are a log, and that line of it doesn't fit
abbrev pub IsDamaged : List ℕ → Fault → Type 0
IsDamaged bytes fault = (begins_as_log bytes ≡ true) × ((line : ℕ) × (fault ≡ Run (Journal (BadLine line))))

-- why the journal in a file of that name isn't read: the file isn't, or the bytes that are told of it are a log, of which a line doesn't fit
abbrev pub IsNoJournal : (List ℕ → Option (List ℕ)) → List ℕ → Fault → Type 0
IsNoJournal holds file fault = IsUnread file fault ⊎ ((bytes : List ℕ) × IsTold (holds file) bytes × IsDamaged bytes fault)

-- why one of the files that are named isn't read; where a journal is, the paths aren't
abbrev pub IsUnreadOf : (List ℕ → Option (List ℕ)) → (map scen journal paths : Option (List ℕ)) → Fault → Type 0
IsUnreadOf holds map scen journal paths fault =
    ((file : List ℕ) × ((map ≡ Some file) ⊎ ((scen ≡ Some file) ⊎ ((journal ≡ None) × (paths ≡ Some file)))) × IsUnread file fault)
    ⊎ ((file : List ℕ) × (journal ≡ Some file) × IsNoJournal holds file fault)

-- why a file of that name isn't held: it is told, or memory was wanting
abbrev pub IsUnheld : List ℕ → Fault → Type 0
IsUnheld file (InUse unheld) = unheld.now ≡ file
IsUnheld file (CannotWrite unheld) = unheld.now ≡ file
IsUnheld file (Run why) = why ≡ OutOfMemory
IsUnheld file other = ⊥
