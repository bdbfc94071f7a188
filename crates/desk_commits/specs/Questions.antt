-- What a desk tells when it is asked: a report or what a report has of some agents, a distance, a plan, who stands where, a copy of its scene.
use Rattle.std.specs.Prelude.{◌≡◌, ◌↔◌, ℕ, Bool, Option, Some, None, IsSome, IsTrue, Result, Ok, Err, List, [], ◌∷◌, All}
use Rattle.grid_cells.specs.Cell.{Point}
use Rattle.grid_cells.specs.Size.{Holds}
use Rattle.grid_cells.specs.Grid.{Chart, IsOpen}
use Rattle.grid_cells.specs.Walks.{IsDistance}
use Rattle.plan_table.specs.Order.{EachOf, ListsAll}
use Rattle.plan_table.specs.Plans.{row_of}
use Rattle.plan_table.specs.Route.{position_of, tracks_of}
use Rattle.plan_table.specs.declared.plans.Row.{Row}
use Rattle.mapf_rules.specs.Costs.{IsFinished}
use Rattle.mapf_rules.specs.Visits.{IsUnblocked}
use Rattle.desk_report.specs.Laws.{HasBoundAndGap}
use Rattle.desk_report.specs.Cut.{IsCut}
use Rattle.desk_report.specs.Report.{IsReportOf}
use Rattle.desk_report.specs.Solves.{Solves}
use Rattle.mapf_rules.specs.declared.kinds.Kinds.{Kinds}
use Rattle.desk_report.specs.declared.reports.AgentLine.{AgentLine}
use Rattle.scene_edits.specs.Scene.{SceneState}
use Rattle.desk_commits.specs.State.{DeskState, version_of}
use Rattle.desk_commits.specs.declared.answers.Reading.{Reading}
use Rattle.desk_commits.specs.declared.answers.Snapshot.{Snapshot}
use Rattle.desk_commits.specs.declared.answers.AskFault.{AskFault}
use Rattle.desk_commits.specs.declared.answers.AskFault.TheVariants.{UnknownAgent, OutOfMap, OutOfMemory}

-- where an agent is finished and has no blocked visit, its bound is given, and its settle time is the bound and the gap
abbrev pub ArePriced : Chart → List (ℕ × Row) → List AgentLine → Type 0
ArePriced grid rows lines = EachOf (λ (entry : ℕ × Row) (line : AgentLine). IsFinished entry.1 → IsUnblocked grid entry.1.plan → HasBoundAndGap line) rows lines

-- the reading is the report of the desk's scene, at its version
pub record ShowsReport (desk : DeskState) (reading : Reading) : Type 0 where
  pub version : reading.version ≡ version_of desk
  pub report : IsReportOf desk.scene.grid desk.scene.mode desk.scene.rows reading.report
  pub priced : ArePriced desk.scene.grid desk.scene.rows reading.report.lines

-- the answer says whether a reading of the desk solves by those kinds
pub record Judges (desk : DeskState) (kinds : Kinds) (answer : Bool) : Type 0 where
  pub reading : Reading
  pub shown : ShowsReport desk reading
  pub says : IsTrue answer ↔ Solves reading.report kinds

-- the distance of the cell to the agent's goal on the scene's map, or the first fault of the question
abbrev pub AnswersDistance : SceneState → ℕ → Point → Result (Option ℕ) AskFault → Type 0
AnswersDistance scene agent cell (Ok distance) = (row : Row) × (row_of scene.rows agent ≡ Some row) × Holds scene.grid.size cell × IsDistance scene.grid cell row.goal distance
AnswersDistance scene agent cell (Err UnknownAgent) = row_of scene.rows agent ≡ None
AnswersDistance scene agent cell (Err OutOfMap) = IsSome (row_of scene.rows agent) × (Holds scene.grid.size cell → ⊥)
AnswersDistance scene agent cell (Err OutOfMemory) = IsSome (row_of scene.rows agent) × Holds scene.grid.size cell

-- a copy of the desk's scene, at its version
pub record Copies (desk : DeskState) (snapshot : Snapshot) : Type 0 where
  pub version : snapshot.version ≡ version_of desk
  pub scene : snapshot.scene ≡ desk.scene

-- the reading is one of the desk, cut to those agents
pub record ShowsCut (desk : DeskState) (agents : List ℕ) (cut : Reading) : Type 0 where
  pub whole : Reading
  pub shown : ShowsReport desk whole
  pub version : cut.version ≡ whole.version
  pub is_cut : IsCut agents whole.report cut.report

-- the agent is live
abbrev pub IsKnown : SceneState → ℕ → Type 0
IsKnown scene agent = IsSome (row_of scene.rows agent)

-- a reading cut to those agents, which are live, or the first fault of the question
abbrev pub TellsCut : DeskState → List ℕ → Result Reading AskFault → Type 0
TellsCut desk agents (Ok cut) = All (IsKnown desk.scene) agents × ShowsCut desk agents cut
TellsCut desk agents (Err UnknownAgent) = All (IsKnown desk.scene) agents → ⊥
TellsCut desk agents (Err OutOfMap) = ⊥
TellsCut desk agents (Err OutOfMemory) = All (IsKnown desk.scene) agents

-- the goal and the path of an agent, which is live, or the first fault of the question
abbrev pub TellsPlan : SceneState → ℕ → Result Row AskFault → Type 0
TellsPlan scene agent (Ok row) = row_of scene.rows agent ≡ Some row
TellsPlan scene agent (Err UnknownAgent) = row_of scene.rows agent ≡ None
TellsPlan scene agent (Err OutOfMap) = ⊥
TellsPlan scene agent (Err OutOfMemory) = IsKnown scene agent

-- whether the cell is open, or that it isn't on the map
abbrev pub TellsOpen : SceneState → Point → Result Bool AskFault → Type 0
TellsOpen scene cell (Ok answer) = Holds scene.grid.size cell × (IsTrue answer ↔ IsOpen scene.grid cell)
TellsOpen scene cell (Err OutOfMap) = Holds scene.grid.size cell → ⊥
TellsOpen scene cell (Err other) = ⊥

-- the agents whose position at that time is the cell, ascending, or the first fault of the question (Stern et al. 2019 for positions)
abbrev pub TellsStanding : SceneState → ℕ → Point → Result (List ℕ) AskFault → Type 0
TellsStanding scene time cell (Ok agents) =
    Holds scene.grid.size cell × ListsAll (λ agent. agent ∷ []) (λ agent. position_of (tracks_of scene.mode scene.rows) agent time ≡ Some cell) agents
TellsStanding scene time cell (Err UnknownAgent) = ⊥
TellsStanding scene time cell (Err OutOfMap) = Holds scene.grid.size cell → ⊥
TellsStanding scene time cell (Err OutOfMemory) = Holds scene.grid.size cell
