-- What holds of all books (a consequence of the definitions).
use Rattle.std.specs.Prelude.{◌≡◌, ℕ}
use Rattle.plan_table.specs.Route.{Fleet}
use Rattle.live_report.specs.Fleet.{FleetState, AreOfFleet}

-- books of a fleet are books of every fleet that has the same route for each agent
abbrev pub RoutesFixBooks : Type 0
RoutesFixBooks = (one other : Fleet) (books : FleetState) → ((agent : ℕ) → one agent ≡ other agent) → AreOfFleet one books → AreOfFleet other books
