-- Cells and conflicts as numbers (this project's choice).
use Rattle.std.specs.Prelude.{◌≡◌, ◌<◌, ◌++◌, ℕ, List, length, take, drop, unwrap_or, slice_get}
use Rattle.grid_cells.specs.Cell.{Point}
use Rattle.grid_cells.specs.declared.sizes.TheConstants.{MOST_SIDE}
use Rattle.mapf_rules.specs.declared.entries.Conflict.{Conflict}
use Rattle.mapf_rules.specs.declared.entries.Conflict.TheVariants.{Vertex, Parked, Edge, Following, Swapping, Cycle}
use Rattle.desk_c.specs.declared.numbers.TheConstants.{NO_NUMBER}
use Rattle.desk_c.specs.declared.numbers.CellNumbers.{CellNumbers}
use Rattle.desk_c.specs.declared.numbers.EntryNumbers.{EntryNumbers}

-- a cell as numbers
abbrev pub cell_numbers : Point → CellNumbers
cell_numbers cell = record { x = cell.x; y = cell.y }

-- the numbers are those of a cell
abbrev pub IsOfCell : CellNumbers → Type 0
IsOfCell numbers = (numbers.x < MOST_SIDE) × (numbers.y < MOST_SIDE)

-- what stands for no cell
abbrev pub no_cell : CellNumbers
no_cell = record { x = NO_NUMBER; y = NO_NUMBER }

-- an entry as numbers: of a cycle the first two agents, and no cell
abbrev pub entry_numbers : Conflict → EntryNumbers
entry_numbers (Vertex time first second cell) = record { kind = 0; time = time; first = first; second = second; cell = cell_numbers cell; other = no_cell }
entry_numbers (Parked time first second cell) = record { kind = 1; time = time; first = first; second = second; cell = cell_numbers cell; other = no_cell }
entry_numbers (Edge time first second cell next) = record { kind = 2; time = time; first = first; second = second; cell = cell_numbers cell; other = cell_numbers next }
entry_numbers (Following time follower leader cell) = record { kind = 3; time = time; first = follower; second = leader; cell = cell_numbers cell; other = no_cell }
entry_numbers (Swapping time first second cell other) = record { kind = 4; time = time; first = first; second = second; cell = cell_numbers cell; other = cell_numbers other }
entry_numbers (Cycle time ring) = record { kind = 5; time = time; first = unwrap_or (slice_get ring 0) NO_NUMBER; second = unwrap_or (slice_get ring 1) NO_NUMBER; cell = no_cell; other = no_cell }

-- the front of the numbers that there is room for is in the room, the rest of which stays; the count is that of all
pub record HasFront (numbers room0 room1 : List EntryNumbers) (count1 : ℕ) : Type 0 where
  pub is : room1 ≡ take (length room0) numbers ++ drop (length numbers) room0
  pub whole : count1 ≡ length numbers
