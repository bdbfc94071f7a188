-- How a session ended, by its fault and the streams (this project's choice).
use Rattle.std.specs.Prelude.{◌≡◌, ◌⊎◌, ℕ, List, [], Option, Some, None, Result, Ok, Err, max, min, unwrap_or}
use Rattle.std.specs.Option.{option_copied}
use Rattle.session_protocol.specs.declared.bounds.ServeFault.{ServeFault}
use Rattle.session_protocol.specs.declared.bounds.ServeFault.TheVariants as session
use Rattle.solver_check.specs.Faults.{as_told}
use Rattle.solver_check.specs.declared.faults.RunFault.{RunFault}
use Rattle.solver_check.specs.declared.faults.RunFault.TheVariants.{Serve, OutOfMemory}
use Rattle.solver_check.specs.declared.faults.Fault.{Fault}
use Rattle.solver_check.specs.declared.faults.Fault.TheVariants as desk
use Rattle.solver_check.specs.declared.faults.Fault.TheVariants.{CannotWrite, Kept}
use Rattle.desk_commits.specs.State.{DeskState}
use Rattle.desk_commits.specs.declared.limits.TheConstants.{MOST_ENTRIES}
use Rattle.single_runs.specs.Sittings.{SitsOverFiles}
use Rattle.single_runs.specs.Opened.{OpensDesk, IsDeskFault}
use Rattle.single_runs.specs.Saved.{saved_text}
use Rattle.desk_cli.specs.declared.words.ServeWords.{ServeWords}
use Rattle.desk_cli.specs.declared.words.HostWords.{HostWords}
use Rattle.mapf_desk.specs.Files.{IsUnready}
use Rattle.mapf_desk.specs.Files.{OfFiles}
use Rattle.mapf_desk.specs.Names.{first_repeated}
use Rattle.mapf_desk.specs.Words.{SitsFrom}
use Rattle.mapf_desk.specs.declared.faults.ProgramFault.{ProgramFault}
use Rattle.mapf_desk.specs.declared.faults.ProgramFault.TheVariants as program
use Rattle.session_lines.specs.declared.versions.LinesVersion.{LinesVersion}
use Rattle.session_lines.specs.declared.versions.LinesVersion.TheVariants.{One, Two}

-- the fault of a session that ended so
abbrev pub fault_at_end : Result ℕ ServeFault → Option RunFault
fault_at_end (Ok lines) = None
fault_at_end (Err why) = Some (as_told (Serve why))

-- the last answers that did not go out are the fault, whatever else there is
abbrev pub last_fault : {T E : Type 0} → Option RunFault → Result T E → Option RunFault
last_fault fault (Ok done) = fault
last_fault fault (Err why) = Some (Serve session.WriteFailed)

-- the fault, unless the last answers did not go out
abbrev pub IsLast : (before last : Option RunFault) → Type 0
IsLast before last = (last ≡ before) ⊎ (last ≡ Some (Serve session.WriteFailed))

-- the journal's limit by the words
abbrev pub limit_of : ServeWords → ℕ
limit_of words = max 1 (min words.limit MOST_ENTRIES)

-- how many changes of its report a desk keeps, where so many are asked for: no line of version 1 asks what changed
abbrev pub history_for : LinesVersion → ℕ → ℕ
history_for One history = 0
history_for Two history = history

-- the session of an input over the desk of the texts and the words
abbrev pub SitsBy : ServeWords → (map scen journal left : Option (List ℕ)) → DeskState × Result ℕ ServeFault → Type 0
SitsBy words map scen journal left sat = SitsFrom words.lines map scen words.agents words.mode (limit_of words) journal left sat

-- no desk was opened over the texts, for that fault
abbrev pub IsFaultOfOpening : ServeWords → (map scen journal left : Option (List ℕ)) → RunFault → Type 0
IsFaultOfOpening words map scen journal left why =
    (why ≡ OutOfMemory) ⊎ ((after held : Option (List ℕ)) × SitsOverFiles words.lines map scen words.agents words.mode (limit_of words) journal left after held held (Err why))

-- a session over the texts left that desk, where one was opened, and has that fault
abbrev pub IsLeftBySession : ServeWords → (map scen journal left : Option (List ℕ)) → Option DeskState → Option RunFault → Type 0
IsLeftBySession words map scen journal left (Some desk) fault =
    (ended : Result ℕ ServeFault) × SitsBy words map scen journal left (desk, ended) × IsLast (fault_at_end ended) fault
IsLeftBySession words map scen journal left None fault = (why : RunFault) × IsFaultOfOpening words map scen journal left why × IsLast (Some why) fault

-- a session's fault as the run has it
abbrev pub IsFaultAtEnd : Option RunFault → Fault → Type 0
IsFaultAtEnd None fault = ⊥
IsFaultAtEnd (Some why) fault = fault ≡ desk.Run why

-- the journal isn't in the file of that name: it could not be saved, or is kept in another one
abbrev pub IsUnsaved : List ℕ → Fault → Type 0
IsUnsaved file (CannotWrite unsaved) = unsaved.now ≡ file
IsUnsaved file (Kept unsaved kept) = unsaved.now ≡ file
IsUnsaved file other = ⊥

-- of the file that was to be saved in, if any
abbrev pub IsUnsavedIn : Option (List ℕ) → Fault → Type 0
IsUnsavedIn file fault = (name : List ℕ) × (file ≡ Some name) × IsUnsaved name fault

-- which files were saved with which bytes
abbrev pub Savings : Type 1
Savings = (file text : List ℕ) → Type 0

-- the system tells of no save
abbrev pub unsaid : Savings
unsaid file text = Unit {0}

-- the desk's journal was saved in that file, where one is named
abbrev pub IsSavedIn : Savings → Option (List ℕ) → DeskState → Type 0
IsSavedIn has_saved None desk = Unit {0}
IsSavedIn has_saved (Some file) desk = has_saved file (saved_text desk)

-- a session over the texts of the files had no fault, and the journal of the desk that it left was saved where the words say
abbrev pub HasNoFault : Savings → ServeWords → (map scen journal : Option (List ℕ)) → Type 0
HasNoFault has_saved words map scen journal =
    (left : Option (List ℕ)) × (desk : DeskState) × IsLeftBySession words map scen journal left (Some desk) None × IsSavedIn has_saved (option_copied words.save) desk

-- it had that fault, or ended without one and was then not saved
abbrev pub HasServeFault : ServeWords → (map scen journal : Option (List ℕ)) → Fault → Type 0
HasServeFault words map scen journal fault =
    (left : Option (List ℕ)) × (desk : Option DeskState) × (why : Option RunFault) × IsLeftBySession words map scen journal left desk why
    × (IsFaultAtEnd why fault ⊎ IsUnsavedIn (option_copied words.save) fault)

-- the desk of the texts is opened
abbrev pub IsOpened : ServeWords → DeskState → (map scen journal : Option (List ℕ)) → Type 0
IsOpened words desk map scen journal = OpensDesk (unwrap_or map []) scen words.agents words.mode (limit_of words) journal desk

-- why the desk of the words isn't opened: its files aren't ready, two planners have one name, or the texts make no desk
abbrev pub IsUnnamed : (List ℕ → Option (List ℕ)) → HostWords → ProgramFault → Type 0
IsUnnamed holds words (program.Desk fault) =
    IsUnready holds words.desk fault
    ⊎ ((why : RunFault) × (fault ≡ desk.Run why) × OfFiles holds (option_copied words.desk.map) (option_copied words.desk.scen) (option_copied words.desk.journal) None
    (λ map scen journal. IsDeskFault (unwrap_or map []) scen words.desk.agents words.desk.mode (limit_of words.desk) journal why))
IsUnnamed holds words (program.NamedTwice name) = first_repeated [] words.names.items ≡ Some name.now
IsUnnamed holds words (program.Check fault) = ⊥
IsUnnamed holds words (program.Host fault) = ⊥
IsUnnamed holds words (program.InUse name) = ⊥
IsUnnamed holds words (program.Log why) = ⊥
