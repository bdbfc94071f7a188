-- A run of `audit`: the report of the scene that the run opens and a journal's entries edit (this project's choice).
use Rattle.std.specs.Prelude.{◌≡◌, ◌⊎◌, ℕ, List, Option}
use Rattle.std.specs.Io.KnownBytes.{Appends}
use Rattle.plan_table.specs.declared.tracks.Mode.{Mode}
use Rattle.scene_edits.specs.Scene.{SceneState}
use Rattle.desk_report.specs.Bytes.{AppendsFront}
use Rattle.desk_report.specs.Report.{IsReportOf}
use Rattle.desk_report.specs.declared.reports.Report.{Report}
use Rattle.desk_commits.specs.State.{DeskState, version_of}
use Rattle.desk_commits.specs.declared.limits.TheConstants.{MOST_ENTRIES}
use Rattle.single_runs.specs.Opened.{Replays, OpensDesk, IsDeskFault}
use Rattle.solver_check.specs.Opens.{Opens}
use Rattle.session_protocol.specs.Replies.{reported_text}
use Rattle.solver_check.specs.declared.faults.RunFault.{RunFault}
use Rattle.solver_check.specs.declared.faults.RunFault.TheVariants.{WriteFailed, OutOfMemory}

-- what an audit that comes to its end has written
pub record Audits (map : List ℕ) (scen : Option (List ℕ)) (agents : ℕ) (mode : Mode) (journal : Option (List ℕ)) (held0 held1 : Option (List ℕ)) : Type 0 where
  pub scene : SceneState
  pub desk : DeskState
  pub report : Report
  pub opens : Opens map scen agents mode scene
  pub replays : Replays journal scene MOST_ENTRIES desk
  pub told : IsReportOf desk.scene.grid desk.scene.mode desk.scene.rows report
  pub written : Appends held0 held1 (reported_text (version_of desk) report)

-- the desk opens, and there is no memory for its report
pub record LacksMemory (map : List ℕ) (scen : Option (List ℕ)) (agents : ℕ) (mode : Mode) (journal : Option (List ℕ)) (fault : RunFault) : Type 0 where
  pub desk : DeskState
  pub opened : OpensDesk map scen agents mode MOST_ENTRIES journal desk
  pub told : fault ≡ OutOfMemory

-- the sink failed, and a prefix of the report went out
pub record StopsInAudit (map : List ℕ) (scen : Option (List ℕ)) (agents : ℕ) (mode : Mode) (journal held0 held1 : Option (List ℕ)) (fault : RunFault) : Type 0 where
  pub desk : DeskState
  pub report : Report
  pub opened : OpensDesk map scen agents mode MOST_ENTRIES journal desk
  pub told : IsReportOf desk.scene.grid desk.scene.mode desk.scene.rows report
  pub fails : fault ≡ WriteFailed
  pub sent : AppendsFront held0 held1 (reported_text (version_of desk) report)

-- how an audit fails: by the first fault of the map, the scenario, the tasks and the journal, and nothing is written; else, where there is none, by want of memory or by its sink
abbrev pub FailsAudit : List ℕ → Option (List ℕ) → ℕ → Mode → (journal held0 held1 : Option (List ℕ)) → RunFault → Type 0
FailsAudit map scen agents mode journal held0 held1 fault =
    ((IsDeskFault map scen agents mode MOST_ENTRIES journal fault ⊎ LacksMemory map scen agents mode journal fault) × (held1 ≡ held0))
    ⊎ StopsInAudit map scen agents mode journal held0 held1 fault
