-- Books of rows, one agent's row changed.
use Rattle.std.proofs.Common.{ℕ, Option, sym, subst}
use Rattle.std.specs.Option.{option_map}
use Rattle.grid_cells.specs.Grid.{Chart}
use Rattle.plan_table.specs.Route.{Fleet, route_in}
use Rattle.plan_table.specs.declared.plans.Row.{Row}
use Rattle.plan_table.specs.declared.tracks.Mode.{Mode}
use Rattle.where_index.specs.Index.{with_route}
use Rattle.live_report.specs.Fleet as fleets
use Rattle.live_report.specs.Prices as prices
use Rattle.live_report.specs.Books.{BooksState, Keep, fleet_in_mode}
use Rattle.live_report.specs.Lines.{WhereLinesStand}
use Rattle.live_report.proofs.Rows.{fleet_with}

-- the fleet, the prices and the lines change alike
pub keep_with : (mode : Mode) (grid : Chart) (rows : prices.Rows) (agent : ℕ) (row : Option Row) (books : BooksState) → fleets.AreOfFleet (with_route (fleet_in_mode mode rows) agent (option_map (route_in mode) row)) books.fleet → prices.AreOfRows grid (prices.with_row_in rows agent row) books.prices → WhereLinesStand grid (prices.with_row_in rows agent row) books.lines → Keep mode grid (prices.with_row_in rows agent row) books
keep_with mode grid rows agent row books fleet priced lines =
    record { fleet = subst (λ (f : Fleet). fleets.AreOfFleet f books.fleet) (sym (fleet_with mode rows agent row)) fleet; prices = priced; lines = lines }
