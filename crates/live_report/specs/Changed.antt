-- What changed in a report, by what came to its lists and went from them (this project's choice).
use Rattle.std.specs.Prelude.{◌≡◌, ℕ, List, filter, map}
use Rattle.std.specs.Option.{is_none}
use Rattle.grid_cells.specs.Grid.{Chart}
use Rattle.plan_table.specs.Plans.{row_of, IsByAgent}
use Rattle.plan_table.specs.declared.plans.Row.{Row}
use Rattle.plan_table.specs.declared.tracks.Mode.{Mode}
use Rattle.desk_report.specs.Changes.{AreDifferences, agents_in_lines}
use Rattle.desk_report.specs.Report.{IsReportOf}
use Rattle.desk_report.specs.declared.changed.Changes.{Changes}
use Rattle.desk_report.specs.declared.reports.AgentLine.{AgentLine}
use Rattle.desk_report.specs.declared.reports.Report.{Report}
use Rattle.scene_edits.specs.Scene.{SceneState}
use Rattle.live_report.specs.Turnovers.{IsTurnover}
use Rattle.live_report.specs.declared.turnovers.Turnover.{Turnover}

-- there is a report of the scene
abbrev pub HasReport : SceneState → Type 0
HasReport scene = (report : Report) × IsReportOf scene.grid scene.mode scene.rows report

-- what changed up to the report of the scene, which there is, from every report of a table in order from which the turnover leads to it
pub record AreChangesBy (turnover : Turnover) (scene : SceneState) (changes : Changes) : Type 0 where
  pub new : Report
  pub is : IsReportOf scene.grid scene.mode scene.rows new
  pub told : (grid : Chart) (mode : Mode) (rows : List (ℕ × Row)) (old : Report) → IsByAgent rows → IsReportOf grid mode rows old → IsTurnover old new turnover → AreDifferences old new changes

-- the agents of the lines that have no row in the table, line by line
abbrev pub AreAgentsGone : List (ℕ × Row) → List AgentLine → List ℕ → Type 0
AreAgentsGone table lines agents = agents ≡ agents_in_lines (filter (λ line. is_none (row_of table line.agent)) lines)
