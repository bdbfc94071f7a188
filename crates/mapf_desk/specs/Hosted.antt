-- A desk that is hosted for the planners of the words (this project's choice).
use Rattle.std.specs.Prelude.{◌≡◌, ◌||◌, ℕ, List, [], Option, None, Some, Bool, Ok, is_err, length, unwrap_or}
use Rattle.std.specs.List.{list_any}
use Rattle.std.specs.Option.{option_copied}
use Rattle.desk_commits.specs.State.{DeskState}
use Rattle.commit_log.specs.Text.{log_text}
use Rattle.desk_log.specs.Keeping.{texts_of}
use Rattle.desk_cli.specs.declared.words.HostWords.{HostWords}
use Rattle.desk_cli.specs.declared.words.ServeWords.{ServeWords}
use Rattle.desk_io.specs.Texts.{IsTold}
use Rattle.mapf_desk.specs.Logged.{IsHad, head_of}
use Rattle.mapf_desk.specs.Ends.{IsOpened, IsSavedIn, Savings}
use Rattle.mapf_desk.specs.Files.{OfFiles}
use Rattle.shared_runs.specs.Hosts.{Hosts}
use Rattle.shared_runs.specs.declared.hosts.hosting.HostEnd.{HostEnd}
use Rattle.solver_check.specs.Inputs.{untold_input}
use Rattle.solver_check.specs.declared.faults.Fault.TheVariants as desk
use Rattle.solver_check.specs.declared.faults.RunFault.TheVariants.{OutOfMemory}
use Rattle.desk_io.specs.declared.opening.PipesFault.{PipesFault}
use Rattle.desk_io.specs.declared.opening.PipesFault.TheVariants as pipes
use Rattle.mapf_desk.specs.declared.faults.ProgramFault.{ProgramFault}
use Rattle.mapf_desk.specs.declared.faults.ProgramFault.TheVariants as program
use Rattle.mapf_desk.specs.Statuses.{host_end}
use Rattle.mapf_desk.specs.declared.statuses.RunEnd.{RunEnd}

-- the operator's session or a planner's had a fault
abbrev pub has_fault : HostEnd → Bool
has_fault end = is_err end.operator || list_any (λ ended. is_err ended) end.planners.items

-- the run's end says whether a session had a fault, and else whether the audit's report is the desk's
abbrev pub IsRunEndOf : HostEnd → RunEnd → Type 0
IsRunEndOf end run = (same : Bool) × (end.same ≡ Ok same) × (run ≡ host_end (has_fault end) same)

-- that there are no seats, as the program has it
abbrev pub unseated : PipesFault → ProgramFault
unseated pipes.OutOfMemory = program.Desk (desk.Run OutOfMemory)
unseated (pipes.InUse name) = program.InUse name

-- a desk of the texts was opened and shared by the planners of the words, whose end is that; the journal of the desk that was closed was saved where the words say
abbrev pub HostsBy : Savings → HostWords → (map scen journal : Option (List ℕ)) → RunEnd → Type 0
HostsBy has_saved words map scen journal run =
    (start : DeskState) × (end : HostEnd) × IsOpened words.desk start map scen journal
    × Hosts (λ _. untold_input words.desk.lines) start (length words.names.items) end
    × IsRunEndOf end run × IsSavedIn has_saved (option_copied words.desk.save) end.desk

-- and the texts are those of the files of the words, each in its place
abbrev pub HasHostedFiles : (List ℕ → Option (List ℕ)) → Savings → HostWords → RunEnd → Type 0
HasHostedFiles holds has_saved words run =
    OfFiles holds (option_copied words.desk.map) (option_copied words.desk.scen) (option_copied words.desk.journal) None
    (λ map scen journal. HostsBy has_saved words map scen journal run)

-- the desk of the texts and of what a log had is opened
abbrev pub IsOpenedLogged : ServeWords → (bytes : List ℕ) → DeskState → (map scen none : Option (List ℕ)) → Type 0
IsOpenedLogged words bytes desk map scen _ = (journal : Option (List ℕ)) × IsHad words (unwrap_or map []) scen bytes journal × IsOpened words desk map scen journal

-- a desk of the texts and of the log that had those bytes, where they are told, was shared by the planners of the words, whose end is that; and it left a log of the head of the words over the text of the map and of the entries of the desk that was closed, all of which a crash leaves
pub record HostsLogged (had : Option (List ℕ)) (has_left : List ℕ → Type 0) (words : HostWords) (map scen : Option (List ℕ)) (run : RunEnd) : Type 0 where
  pub bytes : List ℕ
  pub told : IsTold had bytes
  pub start : DeskState
  pub opened : IsOpenedLogged words.desk bytes start map scen None
  pub end : HostEnd
  pub hosts : Hosts (λ _. untold_input words.desk.lines) start (length words.names.items) end
  pub run_is : IsRunEndOf end run
  pub left : had ≡ Some bytes → has_left (log_text (head_of words.desk (unwrap_or map []) scen) (texts_of end.desk.journal))

-- with a log where the words name one
abbrev pub HasHosted : (holds : List ℕ → Option (List ℕ)) → (has_saved : Savings) → (had : List ℕ → Option (List ℕ)) → (has_left : Savings) → HostWords → (log : Option (List ℕ)) → RunEnd → Type 0
HasHosted holds has_saved had has_left words None run = HasHostedFiles holds has_saved words run
HasHosted holds has_saved had has_left words (Some log) run =
    OfFiles holds (option_copied words.desk.map) (option_copied words.desk.scen) None None (λ map scen none. HostsLogged (had log) (has_left log) words map scen run)
