-- What the books of a desk are the books of (this project's choice of what is kept).
use Rattle.std.specs.Prelude.{◌≡◌, ℕ, Option, List}
use Rattle.std.specs.Option.{option_map}
use Rattle.grid_cells.specs.Grid.{Chart}
use Rattle.plan_table.specs.Route.{Fleet, route_in}
use Rattle.plan_table.specs.Plans.{row_of}
use Rattle.plan_table.specs.declared.plans.Row.{Row}
use Rattle.plan_table.specs.declared.tracks.Mode.{Mode}
use Rattle.desk_report.specs.declared.reports.AgentLine.{AgentLine}
use Rattle.scene_edits.specs.Scene.{SceneState}
use Rattle.live_report.specs.Lines.{WhereLinesStand}
use Rattle.live_report.specs.Fleet as fleets
use Rattle.live_report.specs.Prices as prices

-- what is kept of the agents' places and conflicts, of their costs, visits and goals, and their lines where they stand
pub record BooksState : Type 0 where
  pub fleet : fleets.FleetState
  pub prices : prices.Prices
  pub lines : Option (List AgentLine)

-- the routes of rows in a mode
abbrev pub fleet_in_mode : Mode → prices.Rows → Fleet
fleet_in_mode mode rows = λ agent. option_map (route_in mode) (rows agent)

-- the books are those of the agents' rows on that map, in that mode
pub record Keep (mode : Mode) (grid : Chart) (rows : prices.Rows) (books : BooksState) : Type 0 where
  pub fleet : fleets.AreOfFleet (fleet_in_mode mode rows) books.fleet
  pub prices : prices.AreOfRows grid rows books.prices
  pub lines : WhereLinesStand grid rows books.lines

-- the books are those of the scene
abbrev pub AreOf : SceneState → BooksState → Type 0
AreOf scene books = Keep scene.mode scene.grid (row_of scene.rows) books

-- the books are those of rows on that map, in that mode, among which the agent has that one
pub record Know (mode : Mode) (grid : Chart) (agent : ℕ) (row : Option Row) (books : BooksState) : Type 0 where
  pub rows : prices.Rows
  pub keep : Keep mode grid rows books
  pub has : rows agent ≡ row

-- books of any rows among which the agent has the one row become those of the rows with the other in its place
abbrev pub Renews : Mode → Chart → ℕ → Option Row → Option Row → BooksState → BooksState → Type 0
Renews mode grid agent before after old new = (rows : prices.Rows) → Keep mode grid rows old → rows agent ≡ before → Keep mode grid (prices.with_row_in rows agent after) new
