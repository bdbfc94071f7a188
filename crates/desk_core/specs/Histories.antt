-- What a desk's history has of the reports of its versions (this project's choice).
use Rattle.std.specs.Prelude.{ℕ, Option, List, length, take}
use Rattle.std.specs.Option.{ForSome}
use Rattle.scene_edits.specs.Scene.{SceneState, IsScene}
use Rattle.desk_report.specs.Report.{IsReportOf}
use Rattle.desk_report.specs.declared.reports.Report.{Report}
use Rattle.live_report.specs.Histories.{HistoryState, Recounts}
use Rattle.live_report.specs.Turnovers.{IsTurnover}
use Rattle.live_report.specs.declared.turnovers.Turnover.{Turnover}
use Rattle.desk_commits.specs.Entries.{Entry}
use Rattle.desk_commits.specs.State.{scene_after}

-- the report of a scene
pub record IsReported (scene : SceneState) (report : Report) : Type 0 where
  pub is_scene : IsScene scene
  pub is_report : IsReportOf scene.grid scene.mode scene.rows report

-- the report of the scene that so many of the entries make of the one at the opening
abbrev pub IsReportAt : SceneState → List Entry → ℕ → Report → Type 0
IsReportAt start journal version report = IsReported (scene_after start (take version journal)) report

-- the history recounts the reports of the versions from some first one on, up to the last
abbrev pub RecountsEntries : SceneState → List Entry → HistoryState → Type 0
RecountsEntries start journal history = (first : ℕ) × Recounts (IsReportAt start journal) first (length journal) history

-- where a history stands, it is that of the journal
abbrev pub WhereHistoryStands : SceneState → List Entry → Option HistoryState → Type 0
WhereHistoryStands start journal history = ForSome history (RecountsEntries start journal)

-- to each report of the later scene the turnover leads from one of the earlier
abbrev pub LeadsOver : SceneState → SceneState → Turnover → Type 0
LeadsOver old new turnover = (now : Report) → IsReported new now → (was : Report) × IsReported old was × IsTurnover was now turnover
