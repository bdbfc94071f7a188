-- The values that the lines of a journal can name (this project's choice of ranges).
use Rattle.std.specs.Prelude.{ℕ, ◌^◌, ◌<◌, ◌≤◌, length, All}
use Rattle.grid_cells.specs.Cell.{Point}
use Rattle.grid_cells.specs.declared.numbers.TheConstants.{MOST_AGENT, MOST_PLANNER}
use Rattle.grid_cells.specs.declared.sizes.TheConstants.{MOST_SIDE}
use Rattle.scene_edits.specs.declared.changes.Thing.{Thing}
use Rattle.scene_edits.specs.declared.changes.Thing.TheVariants as things
use Rattle.scene_edits.specs.declared.edits.Edit.{Edit}
use Rattle.scene_edits.specs.declared.edits.Edit.TheVariants.{Add, Drop, Goal, Path, Tail, Open, Close}
use Rattle.desk_commits.specs.Entries.{Entry}
use Rattle.desk_commits.specs.Replays.{Log}
use Rattle.desk_commits.specs.declared.commits.TheConstants.{MOST_EDITS, MOST_WATCHES}
use Rattle.desk_commits.specs.declared.limits.TheConstants.{MOST_ENTRIES}

-- a cell: its column and its row are below 2,048
pub record IsCell (cell : Point) : Type 0 where
  pub column : cell.x < MOST_SIDE
  pub row : cell.y < MOST_SIDE

-- what is watched
abbrev pub IsThing : Thing → Type 0
IsThing (things.Agent agent) = agent ≤ MOST_AGENT
IsThing (things.Cell cell) = IsCell cell
IsThing things.Map = Unit {0}

-- an edit, by its agent, its time and its cells
abbrev pub IsEdit : Edit → Type 0
IsEdit (Add agent start goal) = (agent ≤ MOST_AGENT) × IsCell start × IsCell goal
IsEdit (Drop agent) = agent ≤ MOST_AGENT
IsEdit (Goal agent goal) = (agent ≤ MOST_AGENT) × IsCell goal
IsEdit (Path agent cells) = (agent ≤ MOST_AGENT) × All IsCell cells
IsEdit (Tail agent from cells) = (agent ≤ MOST_AGENT) × (from < 2 ^ 32) × All IsCell cells
IsEdit (Open cell) = IsCell cell
IsEdit (Close cell) = IsCell cell

-- the numbers of the first line of an entry
pub record AreNumbers (planner base watches edits : ℕ) : Type 0 where
  pub planner_most : planner ≤ MOST_PLANNER
  pub base_most : base < 2 ^ 64
  pub watches_most : watches ≤ MOST_WATCHES
  pub edits_most : edits ≤ MOST_EDITS

-- an entry
pub record IsEntry (entry : Entry) : Type 0 where
  pub numbers : AreNumbers entry.planner entry.base (length entry.watch) (length entry.edits)
  pub watch : All IsThing entry.watch
  pub edits : All IsEdit entry.edits

-- a journal: at most 1,000,000 entries
pub record IsJournal (log : Log) : Type 0 where
  pub few : length log.entries ≤ MOST_ENTRIES
  pub entries : All IsEntry log.entries
