-- The desk that a run opens: on the scene of its files, with a journal's entries committed (this project's choice).
use Rattle.std.specs.Prelude.{◌≡◌, ◌⊎◌, ℕ, List, Option, Some, None, Result, Ok, Err}
use Rattle.plan_table.specs.declared.tracks.Mode.{Mode}
use Rattle.scene_edits.specs.Scene.{SceneState}
use Rattle.desk_commits.specs.State.{DeskState, opening}
use Rattle.desk_commits.specs.Replays.{Log, IsReplay}
use Rattle.desk_commits.specs.declared.journals.ReplayFault.{ReplayFault}
use Rattle.journal_text.specs.Reading.{ReadsAs}
use Rattle.journal_text.specs.declared.faults.JournalFault.{JournalFault}
use Rattle.solver_check.specs.Faults.{as_told}
use Rattle.solver_check.specs.Opens.{Opens, IsOpenFault}
use Rattle.solver_check.specs.declared.faults.RunFault.{RunFault}
use Rattle.solver_check.specs.declared.faults.RunFault.TheVariants.{Journal, Replay}

-- the desk that is opened on the scene and, where a journal's text is given, commits its entries
abbrev pub Replays : Option (List ℕ) → SceneState → ℕ → DeskState → Type 0
Replays None scene limit desk = desk ≡ opening scene limit
Replays (Some text) scene limit desk = (log : Log) × ReadsAs text (Ok log) × IsReplay scene limit log (Ok desk)

-- the journal's text is no journal, and this is its first fault
pub record HasTextFault (text : List ℕ) (fault : RunFault) : Type 0 where
  pub why : JournalFault
  pub first : ReadsAs text (Err why)
  pub told : fault ≡ as_told (Journal why)

-- the journal is read, and isn't replayed on the scene
pub record HasReplayFault (text : List ℕ) (scene : SceneState) (limit : ℕ) (fault : RunFault) : Type 0 where
  pub log : Log
  pub why : ReplayFault
  pub reads : ReadsAs text (Ok log)
  pub first : IsReplay scene limit log (Err why)
  pub told : fault ≡ as_told (Replay why)

-- what comes of a journal's text, where one is given, on the scene: a desk, or the first fault
abbrev pub ReplaysAs : Option (List ℕ) → SceneState → ℕ → Result DeskState RunFault → Type 0
ReplaysAs journal scene limit (Ok desk) = Replays journal scene limit desk
ReplaysAs None scene limit (Err fault) = ⊥
ReplaysAs (Some text) scene limit (Err fault) = HasTextFault text fault ⊎ HasReplayFault text scene limit fault

-- the desk of the files
pub record OpensDesk (map : List ℕ) (scen : Option (List ℕ)) (agents : ℕ) (mode : Mode) (limit : ℕ) (journal : Option (List ℕ)) (desk : DeskState) : Type 0 where
  pub scene : SceneState
  pub opens : Opens map scen agents mode scene
  pub replays : Replays journal scene limit desk

-- the scene opens, and this is the journal's first fault
pub record HasEntryFault (map : List ℕ) (scen : Option (List ℕ)) (agents : ℕ) (mode : Mode) (limit : ℕ) (journal : Option (List ℕ)) (fault : RunFault) : Type 0 where
  pub scene : SceneState
  pub opens : Opens map scen agents mode scene
  pub first : ReplaysAs journal scene limit (Err fault)

-- the first fault of the map, the scenario, the tasks and the journal
abbrev pub IsDeskFault : List ℕ → Option (List ℕ) → ℕ → Mode → ℕ → Option (List ℕ) → RunFault → Type 0
IsDeskFault map scen agents mode limit journal fault = IsOpenFault map scen agents fault ⊎ HasEntryFault map scen agents mode limit journal fault
