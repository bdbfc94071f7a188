-- Where the mark of an entry stands in a picture, and which sign it has (this project's choice).
use Rattle.std.specs.Prelude.{ℕ, ◌+◌, ◌/◌, List, length, Option, Some, None, ◌==◌, if◌then◌else◌, codes, slice_get, option_and_then}
use Rattle.grid_cells.specs.Cell.{Point}
use Rattle.plan_table.specs.Route.{Fleet, position_of}
use Rattle.mapf_rules.specs.declared.entries.Conflict.{Conflict}
use Rattle.mapf_rules.specs.declared.entries.Conflict.TheVariants.{Vertex, Parked, Edge, Following, Swapping, Cycle}
use Rattle.desk_pictures.specs.declared.spots.Spot.{Spot}

-- the middle of two cells, in halves of a cell
abbrev pub between : Point → Point → Spot
between first second = record { across = first.x + second.x; down = first.y + second.y }

-- the middle of two cells that are given
abbrev pub between_given : Option Point → Option Point → Spot
between_given (Some first) (Some second) = between first second
between_given (Some first) None = record { across = 0; down = 0 }
between_given None second = record { across = 0; down = 0 }

-- where the ring's agent at that index is at the time
abbrev pub ring_cell : Fleet → ℕ → List ℕ → ℕ → Option Point
ring_cell fleet time ring index = option_and_then (λ agent. position_of fleet agent time) (slice_get ring index)

-- between the cells of the ring's first agent and of the one across
abbrev pub spot_across : Fleet → ℕ → List ℕ → Spot
spot_across fleet time ring = between_given (ring_cell fleet time ring 0) (ring_cell fleet time ring (length ring / 2))

-- at the entry's cell, between its two cells, or across its ring
abbrev pub spot_of : Fleet → Conflict → Spot
spot_of fleet (Vertex time first second cell) = between cell cell
spot_of fleet (Parked time first second cell) = between cell cell
spot_of fleet (Edge time first second cell next) = between cell next
spot_of fleet (Following time follower leader cell) = between cell cell
spot_of fleet (Swapping time first second cell other) = between cell other
spot_of fleet (Cycle time ring) = spot_across fleet time ring

-- the sign of a mark; one of two cells lies along them
abbrev pub symbol_of : Conflict → List ℕ
symbol_of (Vertex time first second cell) = codes "V"
symbol_of (Parked time first second cell) = codes "P"
symbol_of (Edge time first second cell next) = if cell.x == next.x then codes "D" else codes "E"
symbol_of (Following time follower leader cell) = codes "F"
symbol_of (Swapping time first second cell other) = if cell.x == other.x then codes "T" else codes "S"
symbol_of (Cycle time ring) = codes "C"
