-- The lines of a schedule, as libMultiRobotPlanning's programs write it in YAML: each is read without the blanks at its ends.
use Rattle.std.specs.Prelude.{ℕ, ◌==◌, ◌||◌, ◌&&◌, not, Bool, true, false, Option, Some, None, List, [], codes, bytes_eq, is_some, if◌then◌else◌}
use Rattle.std.specs.Option.{option_map, option_and_then, option_map_or}
use Rattle.grid_cells.specs.Cell.{Point, point}
use Rattle.bench_reader.specs.Words.{number_of}
use Rattle.session_lines.specs.Values.{place_of}
use Rattle.path_files.specs.Lines.{behind, behind_blanks, cut, numbered}
use Rattle.path_files.specs.declared.schedule_lines.Spot.{Spot}

-- the line begins the statistics, under which costs may stand
abbrev pub is_statistics : List ℕ → Bool
is_statistics line = bytes_eq line (codes "statistics:")

-- the line begins the agents: `schedule:`, or `schedule: {}` where there are none
abbrev pub begins_schedule : List ℕ → Bool
begins_schedule line = option_map_or (λ rest. bytes_eq rest [] || bytes_eq (behind_blanks rest) (codes "{}")) (behind (codes "schedule:") line) false

-- the agent N of a line `agentN:`
abbrev pub agent_named : List ℕ → Option ℕ
agent_named line =
    option_and_then (λ told. if bytes_eq told.1 [] then Some told.0 else None) (option_and_then numbered (behind (codes "agent") line))

-- the line is one of a place
abbrev pub is_of_place : List ℕ → Bool
is_of_place line =
    is_some (behind (codes "- ") line) || is_some (behind (codes "x:") line) || is_some (behind (codes "y:") line) || is_some (behind (codes "t:") line)

-- the line is one of the agents' or of their places
abbrev pub is_scheduled : List ℕ → Bool
is_scheduled line = is_some (agent_named line) || is_of_place line

-- nothing is told of a place
abbrev pub no_spot : Spot
no_spot = record { cell = point 0 0; has_column = false; has_row = false; has_time = false }

abbrev pub is_begun : Spot → Bool
is_begun spot = spot.has_column || spot.has_row || spot.has_time

-- the text is that number
abbrev pub is_time : ℕ → List ℕ → Bool
is_time time text = option_map_or (λ number. number == time) (number_of text) false

abbrev pub with_column : Spot → ℕ → Spot
with_column spot column = record spot { cell = point column spot.cell.y; has_column = true }

abbrev pub with_row : Spot → ℕ → Spot
with_row spot row = record spot { cell = point spot.cell.x row; has_row = true }

-- the place at that time, with what stands behind one of its keys; each is told once: `x` the column, `y` the row, `t` the time
abbrev pub with_value : ℕ → Spot → List ℕ → List ℕ → Option Spot
with_value time spot key text =
    if bytes_eq key (codes "x") && not spot.has_column then option_map (with_column spot) (place_of text) else
    if bytes_eq key (codes "y") && not spot.has_row then option_map (with_row spot) (place_of text) else
    if bytes_eq key (codes "t") && not spot.has_time && is_time time text then Some (record spot { has_time = true }) else None

-- a pair `KEY: VALUE`
abbrev pub with_pair : ℕ → Spot → List ℕ → Option Spot
with_pair time spot pair = option_and_then (λ parts. with_value time spot parts.0 (behind_blanks parts.1)) (cut 58 pair)

-- the pair in a line: the first of a place has a dash before it
abbrev pub pair_in : Spot → List ℕ → Option (List ℕ)
pair_in spot line = if is_begun spot then Some line else option_map behind_blanks (behind (codes "- ") line)

-- the place at that time, with one more line
abbrev pub spot_with : ℕ → Spot → List ℕ → Option Spot
spot_with time spot line = option_and_then (with_pair time spot) (pair_in spot line)

-- the cell of a place that is told whole
abbrev pub cell_at : Spot → Option Point
cell_at spot = if spot.has_column && spot.has_row && spot.has_time then Some spot.cell else None
