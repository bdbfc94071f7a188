-- What a check behind a call from C answers (this project's choice): the status and the text of the program's `check`.
use Rattle.std.specs.Prelude.{◌≡◌, ◌==◌, ◌⊎◌, if◌then◌else◌, ℕ, List, [], Option, Some, None, Bool, true, false}
use Rattle.plan_table.specs.declared.tracks.Mode.{Mode}
use Rattle.path_files.specs.declared.forms.Form.{Form}
use Rattle.path_files.specs.declared.forms.Form.TheVariants.{ByTime, ByAgent, BySession, ByMoves, ByFlippedMoves, ByJson, BySchedule}
use Rattle.mapf_rules.specs.declared.kinds.Kinds.{Kinds}
use Rattle.solver_check.specs.Checks.{Checks, IsCheckFault}
use Rattle.solver_check.specs.declared.checks.faults.CheckFault.{CheckFault}
use Rattle.solver_check.specs.declared.checks.listings.Listing.{Listing}
use Rattle.desk_c.specs.Calls.{HasCopied}
use Rattle.desk_c.specs.declared.checking.TheConstants.{SOLVED, UNSOLVED, FAULT, BY_TIME, BY_AGENT, BY_SESSION, BY_JSON, BY_SCHEDULE, BY_MOVES, BY_FLIPPED_MOVES}
use Rattle.desk_c.specs.declared.numbers.TheConstants.{NO_NUMBER}

-- a number, where it is given
abbrev pub number_in : ℕ → Option ℕ
number_in n = if n == NO_NUMBER then None else (Some n)

-- the form that a number stands for; for any other the first line tells it
abbrev pub form_in : ℕ → Option Form
form_in n =
    if n == BY_TIME then (Some ByTime) else (if n == BY_AGENT then (Some ByAgent) else (if n == BY_SESSION then (Some BySession) else
    (if n == BY_JSON then (Some ByJson) else (if n == BY_SCHEDULE then (Some BySchedule) else
    (if n == BY_MOVES then (Some ByMoves) else (if n == BY_FLIPPED_MOVES then (Some ByFlippedMoves) else None))))))

abbrev pub status_of_verdict : Bool → ℕ
status_of_verdict true = SOLVED
status_of_verdict false = UNSOLVED

-- a verdict was given, and its text is what a check writes
pub record GivesVerdict (map : List ℕ) (scen : Option (List ℕ)) (agents : Option ℕ) (mode : Mode) (paths : List ℕ) (form : Option Form) (kinds : Kinds) (listing : Listing) (status : ℕ) (text : List ℕ) : Type 0 where
  pub solved : Bool
  pub checks : Checks map scen agents mode paths form kinds listing (Some []) (Some text) solved
  pub told : status ≡ status_of_verdict solved

-- there is no verdict; nothing is said here of the fault's text
pub record FailsCheck (map : List ℕ) (scen : Option (List ℕ)) (agents : Option ℕ) (mode : Mode) (paths : List ℕ) (form : Option Form) (status : ℕ) : Type 0 where
  pub fault : CheckFault
  pub why : IsCheckFault map scen agents mode paths form fault
  pub told : status ≡ FAULT

-- the status and the text of a check
abbrev pub IsCheckAnswer : List ℕ → Option (List ℕ) → Option ℕ → Mode → List ℕ → Option Form → Kinds → Listing → ℕ → List ℕ → Type 0
IsCheckAnswer map scen agents mode paths form kinds listing status text =
    GivesVerdict map scen agents mode paths form kinds listing status text ⊎ FailsCheck map scen agents mode paths form status

-- the status is told, and the front of the text that there is room for is in the room
pub record TellsCheck (status : ℕ) (map : List ℕ) (scen : Option (List ℕ)) (agents : Option ℕ) (mode : Mode) (paths : List ℕ) (form : Option Form) (kinds : Kinds) (listing : Listing) (room0 room1 : List ℕ) (length1 : ℕ) : Type 0 where
  pub text : List ℕ
  pub answered : IsCheckAnswer map scen agents mode paths form kinds listing status text
  pub copied : HasCopied text room0 room1 length1
