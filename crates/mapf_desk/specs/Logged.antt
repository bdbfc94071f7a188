-- Sessions whose commits stand in a log (this project's choice).
use Rattle.std.specs.Prelude.{◌≡◌, ℕ, List, [], Option, Some, None, Result, Ok, Bool, true, false, unwrap_or}
use Rattle.std.specs.Option.{option_copied}
use Rattle.commit_log.specs.Text.{head_text, log_text, scene_digest}
use Rattle.desk_commits.specs.Counting.{desk_counting}
use Rattle.desk_commits.specs.Entries.{Entry}
use Rattle.desk_commits.specs.State.{DeskState}
use Rattle.desk_log.specs.Keeping.{IsLogged, IsLoggedInPart, texts_of}
use Rattle.desk_log.specs.Reading.{IsRead, IsTornHead}
use Rattle.desk_log.specs.declared.reading.LogRead.{LogRead}
use Rattle.desk_cli.specs.declared.words.ServeWords.{ServeWords}
use Rattle.desk_io.specs.Texts.{IsTold}
use Rattle.session_lines.specs.declared.versions.LinesVersion.{LinesVersion}
use Rattle.session_protocol.specs.Answer.{answering_in}
use Rattle.session_protocol.specs.Keeping.{StopsUnkept}
use Rattle.session_protocol.specs.Session.{Serves}
use Rattle.session_protocol.specs.Start.{HearsMap, bounds_after}
use Rattle.session_protocol.specs.declared.bounds.Bounds.{Bounds}
use Rattle.session_protocol.specs.declared.bounds.ServeFault.{ServeFault}
use Rattle.session_protocol.specs.declared.drafts.Session.{Session}
use Rattle.session_protocol.specs.declared.drafts.Session.TheVariants.{Idle}
use Rattle.single_runs.specs.Opened.{OpensDesk}
use Rattle.solver_check.specs.Bounds.{run_bounds}
use Rattle.solver_check.specs.declared.faults.Fault.TheVariants as desk
use Rattle.solver_check.specs.declared.faults.RunFault.TheVariants.{OutOfMemory}
use Rattle.mapf_desk.specs.Ends.{HasNoFault, Savings, limit_of}
use Rattle.mapf_desk.specs.Files.{OfFiles}
use Rattle.mapf_desk.specs.declared.faults.LogRefused.TheVariants.{InUse}
use Rattle.mapf_desk.specs.declared.faults.ProgramFault.{ProgramFault}
use Rattle.mapf_desk.specs.declared.faults.ProgramFault.TheVariants as program

-- why a log of that name isn't opened
abbrev pub IsUnopened : List ℕ → ProgramFault → Type 0
IsUnopened name (program.Log why) = why ≡ InUse
IsUnopened name (program.Desk (desk.CannotRead file)) = file.now ≡ name
IsUnopened name (program.Desk (desk.CannotWrite file)) = file.now ≡ name
IsUnopened name (program.Desk (desk.Run why)) = why ≡ OutOfMemory
IsUnopened name other = ⊥

-- the head of the log of the words over the text of a map
abbrev pub head_of : ServeWords → (map : List ℕ) → (scen : Option (List ℕ)) → List ℕ
head_of words map scen = head_text words.mode (scene_digest map (unwrap_or scen []) words.agents)

-- what the log of the words over the text of a map had: a front of its head, or entries of that scene and mode, which make that journal
abbrev pub IsHad : ServeWords → (map : List ℕ) → (scen : Option (List ℕ)) → (bytes : List ℕ) → (journal : Option (List ℕ)) → Type 0
IsHad words map scen bytes None = IsTornHead bytes (head_of words map scen)
IsHad words map scen bytes (Some text) =
    (log : LogRead) × IsRead bytes log × (log.mode ≡ words.mode) × (log.scene ≡ scene_digest map (unwrap_or scen []) words.agents) × (text ≡ log.journal.items)

-- a log has that head, the entries of that journal and nothing else, and a crash leaves them all
abbrev pub HasEntries : (head : List ℕ) → (text kept : Option (List ℕ)) → List Entry → Type 0
HasEntries head text kept journal = (count : ℕ) × (check : List ℕ) × IsLogged head text kept count check journal

-- a session over a desk left that one
abbrev pub SitsOn : LinesVersion → Bounds → (left0 left1 held0 held1 : Option (List ℕ)) → (start desk : DeskState) → Result ℕ ServeFault → Type 0
SitsOn version bounds left0 left1 held0 held1 start desk ended =
    (last : Session) × Serves (answering_in version desk_counting) bounds left0 left1 held0 held1 (Idle, start) (last, desk) ended

-- and of the answer to what its last line did nothing went out, since it wasn't kept
abbrev pub StopsOn : LinesVersion → (held0 held1 : Option (List ℕ)) → (start desk : DeskState) → (IsKept : DeskState → Type 0) → Type 0
StopsOn version held0 held1 start desk IsKept = (last : Session) × StopsUnkept (answering_in version desk_counting) held0 held1 (Idle, start) (last, desk) (λ told. IsKept told.1)

-- at the end of a session the log has its head and the entries of the journal of the desk; or it failed: of the answer to what isn't in it nothing went out, and
-- whatever a crash leaves stands for the entries that were answered, and maybe more
abbrev pub IsKept : LinesVersion → (head : List ℕ) → (held0 held1 text kept : Option (List ℕ)) → (has_failed : Bool) → (Had : Type 0) → (start desk : DeskState) → Type 0
IsKept version head held0 held1 text kept false Had start desk = Had → HasEntries head text kept desk.journal
IsKept version head held0 held1 text kept true Had start desk =
    StopsOn version held0 held1 start desk (λ told. Had → IsLoggedInPart head text kept told.journal desk.journal)

-- a session over the text of a map and the desk of what its log had, and what it left
pub record SatOver (words : ServeWords) (map : List ℕ) (scen : Option (List ℕ)) (bytes : List ℕ) (bounds : Bounds) (left0 left1 held0 held1 : Option (List ℕ)) (ended : Result ℕ ServeFault) (IsLeft : DeskState → DeskState → Type 0) : Type 0 where
  pub journal : Option (List ℕ)
  pub had : IsHad words map scen bytes journal
  pub start : DeskState
  pub desk : DeskState
  pub opens : OpensDesk map scen words.agents words.mode (limit_of words) journal start
  pub last : Session
  pub session : Serves (answering_in words.lines desk_counting) bounds left0 left1 held0 held1 (Idle, start) (last, desk) ended
  pub left : IsLeft start desk

-- the text of the map, where one was handed in, and else what came first from the input
abbrev pub IsMapFrom : Option (List ℕ) → (left between : Option (List ℕ)) → List ℕ → Type 0
IsMapFrom (Some map) left between text = (text ≡ map) × (between ≡ left)
IsMapFrom None left between text = HearsMap left between run_bounds.bytes text

-- what may be heard behind it
abbrev pub bounds_behind : Option (List ℕ) → List ℕ → Bounds
bounds_behind (Some map) text = run_bounds
bounds_behind None text = bounds_after text run_bounds

-- and so over the texts of files, where the map may come first from the input
pub record SatFrom (words : ServeWords) (map scen : Option (List ℕ)) (bytes : List ℕ) (left0 left1 held0 held1 : Option (List ℕ)) (ended : Result ℕ ServeFault) (IsLeft : List ℕ → DeskState → DeskState → Type 0) : Type 0 where
  pub text : List ℕ
  pub between : Option (List ℕ)
  pub heard : IsMapFrom map left0 between text
  pub sat : SatOver words text scen bytes (bounds_behind map text) between left1 held0 held1 ended (IsLeft text)

-- and so to the end of an input, whose answers went into a buffer
pub record SatToEnd (words : ServeWords) (map scen : Option (List ℕ)) (bytes : List ℕ) (IsLeft : List ℕ → List Entry → Type 0) : Type 0 where
  pub left0 : Option (List ℕ)
  pub left1 : Option (List ℕ)
  pub held0 : Option (List ℕ)
  pub held1 : Option (List ℕ)
  pub lines : ℕ
  pub sat : SatFrom words map scen bytes left0 left1 held0 held1 (Ok lines) (λ text start desk. IsLeft text desk.journal)

-- a session without a fault over the texts of files and the log that had those bytes, where they are told, left a log of the head of the words over the text of the map and of the entries of its desk, all of which a crash leaves
pub record HasLogged (had : Option (List ℕ)) (has_left : List ℕ → Type 0) (words : ServeWords) (map scen : Option (List ℕ)) : Type 0 where
  pub bytes : List ℕ
  pub told : IsTold had bytes
  pub sat : SatToEnd words map scen bytes (λ text journal. had ≡ Some bytes → has_left (log_text (head_of words text scen) (texts_of journal)))

-- a session without a fault over the texts of the files of the words: with a log where they name one, and else its journal was saved where they say
abbrev pub HasServed : (holds : List ℕ → Option (List ℕ)) → (has_saved : Savings) → (had : List ℕ → Option (List ℕ)) → (has_left : Savings) → ServeWords → (log : Option (List ℕ)) → Type 0
HasServed holds has_saved had has_left words None =
    OfFiles holds (option_copied words.map) (option_copied words.scen) (option_copied words.journal) None (HasNoFault has_saved words)
HasServed holds has_saved had has_left words (Some log) =
    OfFiles holds (option_copied words.map) (option_copied words.scen) None None (λ map scen none. HasLogged (had log) (has_left log) words map scen)
