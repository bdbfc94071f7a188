-- What holds of every index (consequences of the definitions).
use Rattle.std.specs.Prelude.{◌≡◌, ℕ, List, length}
use Rattle.plan_table.specs.Route.{Route, Fleet, position_of}
use Rattle.where_index.specs.Records.{records_apart}
use Rattle.where_index.specs.Counted.{Record, ListsApart}
use Rattle.where_index.specs.Index.{Contents, StandsFor}

-- what an index keeps fixes the route of every agent, and with it every position
abbrev pub OneFleet : Type 0
OneFleet = (index : Contents) (one two : Fleet) → StandsFor index one → StandsFor index two → (agent : ℕ) → (one agent ≡ two agent) × ((time : ℕ) → position_of one agent time ≡ position_of two agent time)

-- there is a list of the records that exactly one of two routes has, each once, and it is as long as they are counted
abbrev pub RecordsAreCounted : Type 0
RecordsAreCounted = (old new : Route) → (records : List Record) × ListsApart old new records × (length records ≡ records_apart old new)
