-- Rows and routes of a fleet, one agent's row changed.
use Rattle.std.proofs.Common.{◌≡◌, ℕ, Option, arith}
use Rattle.std.specs.Option.{option_map}
use Rattle.std.proofs.lemmas.Bool.Decides.{nat_tests}
use Rattle.std.proofs.lemmas.Grind.{common_steps}
use Rattle.std.proofs.lemmas.Option.{gets}
use Rattle.plan_table.specs.Route.{route_in}
use Rattle.plan_table.specs.declared.plans.Row.{Row}
use Rattle.plan_table.specs.declared.tracks.Mode.{Mode}
use Rattle.where_index.specs.Index.{with_route}
use Rattle.live_report.specs.Prices.{Rows, with_row_in}
use Rattle.live_report.specs.Books.{fleet_in_mode}

-- one agent's row after another in its place
pub renewed : (rows : Rows) (agent : ℕ) (first second : Option Row) → with_row_in (with_row_in rows agent first) agent second ≡ with_row_in rows agent second
renewed rows agent first second = grind (arith, nat_tests, common_steps, gets)

-- an agent's own row in its place
pub unchanged : (rows : Rows) (agent : ℕ) (row : Option Row) → rows agent ≡ row → with_row_in rows agent row ≡ rows
unchanged rows agent row has = grind (arith, nat_tests, common_steps, gets)

-- the fleet of rows, one agent's row changed, is the fleet with another route
pub fleet_with : (mode : Mode) (rows : Rows) (agent : ℕ) (row : Option Row) → fleet_in_mode mode (with_row_in rows agent row) ≡ with_route (fleet_in_mode mode rows) agent (option_map (route_in mode) row)
fleet_with mode rows agent row = grind (arith, nat_tests, common_steps, gets)

-- the agent's row is the one that was put in its place
pub in_place : (rows : Rows) (agent : ℕ) (row : Option Row) → with_row_in rows agent row agent ≡ row
in_place rows agent row = grind (arith, nat_tests, common_steps, gets)
