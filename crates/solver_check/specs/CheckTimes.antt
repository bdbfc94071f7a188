-- The time at which a path is refused (this project's choice).
use Rattle.std.specs.Prelude.{ℕ, ◌+◌, ◌||◌, nat_le, Bool, Option, List, unwrap_or}
use Rattle.std.specs.List.{position}
use Rattle.grid_cells.specs.Cell.{Point}
use Rattle.grid_cells.specs.Size.{Extent}
use Rattle.plan_table.specs.declared.paths.TheConstants.{MOST_LAST_INDEX}
use Rattle.scene_edits.specs.declared.edits.EditFault.{EditFault}
use Rattle.scene_edits.specs.declared.edits.EditFault.TheVariants.{UnknownAgent, AgentTaken, TooManyAgents, OutOfMap, EmptyPath, NotFromStart, NoSuchTime, NotAStep, TooLong}

-- the cell is off the map
abbrev pub is_off : Extent → Point → Bool
is_off size cell = nat_le size.width cell.x || nat_le size.height cell.y

-- the index of the first cell that is off the map
abbrev pub first_off : Extent → List Point → Option ℕ
first_off size cells = position (is_off size) cells

-- the time of the first cell that has the fault; what is wrong with a whole path is wrong at its start
abbrev pub time_of_fault : Extent → List Point → EditFault → ℕ
time_of_fault size cells OutOfMap = unwrap_or (first_off size cells) 0
time_of_fault size cells (NotAStep at) = at
time_of_fault size cells TooLong = MOST_LAST_INDEX + 1
time_of_fault size cells UnknownAgent = 0
time_of_fault size cells AgentTaken = 0
time_of_fault size cells TooManyAgents = 0
time_of_fault size cells EmptyPath = 0
time_of_fault size cells NotFromStart = 0
time_of_fault size cells NoSuchTime = 0
