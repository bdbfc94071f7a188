-- A session over the desk of a run's files, after which the desk is handed back (this project's choice).
use Rattle.std.specs.Prelude.{◌≡◌, ◌⊎◌, ℕ, List, Option, Some, None, Result, Ok, Err, Bool}
use Rattle.plan_table.specs.declared.tracks.Mode.{Mode}
use Rattle.desk_commits.specs.State.{DeskState}
use Rattle.session_protocol.specs.Answer.{answering_in}
use Rattle.desk_commits.specs.Counting.{desk_counting}
use Rattle.session_protocol.specs.Session.{Serves, is_read_failed, is_write_failed}
use Rattle.session_protocol.specs.Start.{HearsMap, StopsInMap, bounds_after}
use Rattle.session_protocol.specs.declared.bounds.Bounds.{Bounds}
use Rattle.session_protocol.specs.declared.bounds.ServeFault.{ServeFault}
use Rattle.session_lines.specs.declared.versions.LinesVersion.{LinesVersion}
use Rattle.session_protocol.specs.declared.drafts.Session.{Session}
use Rattle.session_protocol.specs.declared.drafts.Session.TheVariants.{Idle}
use Rattle.solver_check.specs.Faults.{as_told, is_of_source, is_of_sink}
use Rattle.single_runs.specs.Opened.{OpensDesk, IsDeskFault}
use Rattle.solver_check.specs.Bounds.{run_bounds}
use Rattle.solver_check.specs.declared.faults.RunFault.{RunFault}
use Rattle.solver_check.specs.declared.faults.RunFault.TheVariants.{Serve}

-- the desk of the files was served a session in that version of lines, which ended so and left that desk
pub record IsSitting (version : LinesVersion) (map : List ℕ) (scen : Option (List ℕ)) (agents : ℕ) (mode : Mode) (limit : ℕ) (journal : Option (List ℕ)) (bounds : Bounds) (left0 left1 held0 held1 : Option (List ℕ)) (desk : DeskState) (ended : Result ℕ ServeFault) : Type 0 where
  pub start : DeskState
  pub opens : OpensDesk map scen agents mode limit journal start
  pub last : Session
  pub session : Serves (answering_in version desk_counting) bounds left0 left1 held0 held1 (Idle, start) (last, desk) ended

-- over the text of a map: the desk after the session and how that ended, or the first fault, and nothing is read or written
abbrev pub SitsOver : LinesVersion → List ℕ → Option (List ℕ) → ℕ → Mode → ℕ → Option (List ℕ) → Bounds → (left0 left1 held0 held1 : Option (List ℕ)) → Result (DeskState × Result ℕ ServeFault) RunFault → Type 0
SitsOver version map scen agents mode limit journal bounds left0 left1 held0 held1 (Ok sat) = IsSitting version map scen agents mode limit journal bounds left0 left1 held0 held1 sat.0 sat.1
SitsOver version map scen agents mode limit journal bounds left0 left1 held0 held1 (Err fault) =
    IsDeskFault map scen agents mode limit journal fault × (left1 ≡ left0) × (held1 ≡ held0)

-- the text of the map came first; its bytes count
pub record SitsAfterMap (version : LinesVersion) (scen : Option (List ℕ)) (agents : ℕ) (mode : Mode) (limit : ℕ) (journal left0 left1 held0 held1 : Option (List ℕ)) (result : Result (DeskState × Result ℕ ServeFault) RunFault) : Type 0 where
  pub text : List ℕ
  pub between : Option (List ℕ)
  pub heard : HearsMap left0 between run_bounds.bytes text
  pub sits : SitsOver version text scen agents mode limit journal (bounds_after text run_bounds) between left1 held0 held1 result

-- the text of the map did not come whole
pub record StopsBefore (left0 left1 held0 held1 : Option (List ℕ)) (fault : RunFault) : Type 0 where
  pub why : ServeFault
  pub stops : StopsInMap left0 left1 run_bounds.bytes why
  pub told : fault ≡ as_told (Serve why)
  pub silent : held1 ≡ held0

-- no map was handed in: its text came first from the reader, or not whole
abbrev pub SitsAtReader : LinesVersion → Option (List ℕ) → ℕ → Mode → ℕ → (journal left0 left1 held0 held1 : Option (List ℕ)) → Result (DeskState × Result ℕ ServeFault) RunFault → Type 0
SitsAtReader version scen agents mode limit journal left0 left1 held0 held1 (Ok sat) = SitsAfterMap version scen agents mode limit journal left0 left1 held0 held1 (Ok sat)
SitsAtReader version scen agents mode limit journal left0 left1 held0 held1 (Err fault) =
    SitsAfterMap version scen agents mode limit journal left0 left1 held0 held1 (Err fault) ⊎ StopsBefore left0 left1 held0 held1 fault

-- what a session over the desk of a run's files leaves
abbrev pub SitsOverFiles : LinesVersion → Option (List ℕ) → Option (List ℕ) → ℕ → Mode → ℕ → (journal left0 left1 held0 held1 : Option (List ℕ)) → Result (DeskState × Result ℕ ServeFault) RunFault → Type 0
SitsOverFiles version (Some map) scen agents mode limit journal left0 left1 held0 held1 result = SitsOver version map scen agents mode limit journal run_bounds left0 left1 held0 held1 result
SitsOverFiles version None scen agents mode limit journal left0 left1 held0 held1 result = SitsAtReader version scen agents mode limit journal left0 left1 held0 held1 result

-- the source failed, before the session or in it; and so the sink
abbrev pub source_failed : Result (DeskState × Result ℕ ServeFault) RunFault → Bool
source_failed (Ok sat) = is_read_failed sat.1
source_failed (Err fault) = is_of_source fault

abbrev pub sink_failed : Result (DeskState × Result ℕ ServeFault) RunFault → Bool
sink_failed (Ok sat) = is_write_failed sat.1
sink_failed (Err fault) = is_of_sink fault
