-- Paths as moves: a row of letters for each agent from 0, `u` up, `d` down, `l` left, `r` right, `w` to wait, of either case; commas and
-- blanks may stand between them. Up is the row before, or flipped the row behind (this project's choice).
-- Columns and rows go round here: before the first one stands the last that a map may have. A path begins in the cell 0,0, and is set out from
-- its agent's start where that is known; one that leaves the map by its edge is then out of it, or makes no step.
use Rattle.std.specs.Prelude.{ℕ, ◌+◌, ◌-◌, ◌%◌, ◌==◌, ◌||◌, nat_le, Bool, true, false, ◌&&◌, Option, Some, None, Result, Ok, Err, List, [], ◌∷◌, ◌++◌, length, map, is_some, if◌then◌else◌}
use Rattle.std.specs.List.{list_all}
use Rattle.std.specs.Option.{option_map_or}
use Rattle.grid_cells.specs.Cell.{Point, point}
use Rattle.grid_cells.specs.declared.sizes.TheConstants.{MOST_SIDE}
use Rattle.bench_reader.specs.Lines.{is_blank}
use Rattle.scene_edits.specs.declared.scenes.TheConstants.{MOST_AGENTS}
use Rattle.path_files.specs.Answers.{and_then}
use Rattle.path_files.specs.Lines.{Line}
use Rattle.path_files.specs.declared.faults.PathsFault.{PathsFault}
use Rattle.path_files.specs.declared.faults.PathsFault.TheVariants.{BadMove, NoPaths, TooManyAgents}
use Rattle.path_files.specs.declared.forms.Form.{Form}
use Rattle.path_files.specs.declared.forms.Form.TheVariants.{ByTime, ByAgent, BySession, ByMoves, ByFlippedMoves, ByJson, BySchedule}
use Rattle.path_files.specs.declared.paths.SolverPaths.{SolverPaths}

-- the cell so many columns and rows further, going round
abbrev pub moved : Point → Point → Point
moved cell by = point ((cell.x + by.x) % MOST_SIDE) ((cell.y + by.y) % MOST_SIDE)

-- one row up, and one down
abbrev pub up : Point
up = point 0 (MOST_SIDE - 1)

abbrev pub down : Point
down = point 0 1

-- how many columns and rows further a letter leads
abbrev pub move_of : Bool → ℕ → Option Point
move_of flipped byte =
    if byte == 117 || byte == 85 then Some (if flipped then down else up) else
    if byte == 100 || byte == 68 then Some (if flipped then up else down) else
    if byte == 108 || byte == 76 then Some (point (MOST_SIDE - 1) 0) else
    if byte == 114 || byte == 82 then Some (point 1 0) else
    if byte == 119 || byte == 87 then Some (point 0 0) else None

-- what may stand between moves
abbrev pub is_between : ℕ → Bool
is_between byte = byte == 44 || is_blank byte

-- the byte is a move
unfoldable pub is_move : ℕ → Bool
is_move byte = is_some (move_of false byte)

-- the byte may stand in a row
unfoldable pub is_of_row : ℕ → Bool
is_of_row byte = is_between byte || is_move byte

-- the line is a row of moves, and begins with one
abbrev pub is_of_moves : List ℕ → Bool
is_of_moves [] = false
is_of_moves (byte ∷ line) = is_move byte && list_all is_of_row line

-- the path so far, which has made so many moves and comes to that cell, and the moves of these bytes
abbrev pub moves_from : Bool → ℕ → ℕ → Point → List Point → List ℕ → Result (List Point) PathsFault
moves_from flipped line time cell path [] = Ok path
moves_from flipped line time cell path (byte ∷ bytes) =
    if is_between byte then moves_from flipped line time cell path bytes else
    option_map_or (λ by. moves_from flipped line (time + 1) (moved cell by) (path ++ moved cell by ∷ []) bytes)
    (move_of flipped byte) (Err (BadMove line time))

-- the path of a row from that start
abbrev pub path_from : Bool → ℕ → Point → List ℕ → Result (List Point) PathsFault
path_from flipped line start bytes = moves_from flipped line 0 start (start ∷ []) bytes

-- the paths so far, and those of these rows
abbrev pub rows_from : Bool → List (List Point) → List Line → Result (List (List Point)) PathsFault
rows_from flipped paths [] = if length paths == 0 then Err NoPaths else Ok paths
rows_from flipped paths (line ∷ lines) =
    if nat_le MOST_AGENTS (length paths) then Err (TooManyAgents line.number) else
    and_then (path_from flipped line.number (point 0 0) line.bytes) (λ path. rows_from flipped (paths ++ path ∷ []) lines)

-- up is the row behind
abbrev pub is_flipped : Form → Bool
is_flipped ByFlippedMoves = true
is_flipped _ = false

-- what rows of moves spell
abbrev pub by_rows : Form → List Line → Result SolverPaths PathsFault
by_rows form lines =
    and_then (rows_from (is_flipped form) [] lines) (λ paths. Ok (record { form = form; starts = None; goals = None; agents = None; paths = paths }))

-- paths of that form are to be set out
abbrev pub is_relative : Form → Bool
is_relative ByTime = false
is_relative ByAgent = false
is_relative BySession = false
is_relative ByMoves = true
is_relative ByFlippedMoves = true
is_relative ByJson = false
is_relative BySchedule = false

-- the path set out from a start
abbrev pub set_out : Point → List Point → List Point
set_out start path = map (λ cell. moved cell start) path
