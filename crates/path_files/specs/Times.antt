-- Paths by time, as LaCAM's and PIBT's programs print them.
-- `solution=` or nothing, and then a line `T:(x,y),(x,y),..,` for each time from 0. Behind them other lines may stand, as of a log.
use Rattle.std.specs.Prelude.{ℕ, ◌+◌, Option, Some, None, Result, Ok, Err, List, [], ◌∷◌, ◌==◌, ◌||◌, length, codes, bytes_eq, is_some, if◌then◌else◌}
use Rattle.std.specs.Option.{option_map_or}
use Rattle.grid_cells.specs.Cell.{Point}
use Rattle.path_files.specs.Answers.{and_then}
use Rattle.path_files.specs.Lines.{Line, numbered}
use Rattle.path_files.specs.Forms.{is_of_paths, has_paths}
use Rattle.path_files.specs.Rows.{row_in_line, paths_with_row}
use Rattle.path_files.specs.Heads.{with_line}
use Rattle.path_files.specs.declared.faults.PathsFault.{PathsFault}
use Rattle.path_files.specs.declared.faults.PathsFault.TheVariants.{BadTime, NoPaths, MissingSolution}
use Rattle.path_files.specs.declared.forms.Form.TheVariants.{ByTime}
use Rattle.path_files.specs.declared.heads.Head.{Head}
use Rattle.path_files.specs.declared.paths.SolverPaths.{SolverPaths}

-- the row of a time
abbrev pub row_at : ℕ → Option ℕ → ℕ → List ℕ → Result (List Point) PathsFault
row_at time count line bytes =
    option_map_or (λ told. if told.0 == time then row_in_line line count told.1 else Err (BadTime line)) (numbered bytes) (Err (BadTime line))

-- the paths so far, of so many times, and the rows of these lines; a line behind the last row is none of theirs
abbrev pub times_from : ℕ → Option ℕ → List (List Point) → List Line → Result (List (List Point)) PathsFault
times_from time count paths [] = if time == 0 then Err NoPaths else Ok paths
times_from time count paths (line ∷ lines) =
    if is_of_paths ByTime line.bytes then
    and_then (row_at time count line.number line.bytes) (λ row. times_from (time + 1) (Some (length row)) (paths_with_row paths row) lines)
    else if time == 0 || has_paths ByTime lines then Err (BadTime line.number) else Ok paths

-- the paths of these lines
abbrev pub times_of : Head → List Line → Result SolverPaths PathsFault
times_of head lines =
    and_then (times_from 0 None [] lines)
    (λ paths. Ok (record { form = ByTime; starts = head.starts; goals = head.goals; agents = head.agents; paths = paths }))

-- the fault of a text that is over before its paths
abbrev pub no_times : Head → PathsFault
no_times head = if head.unsolved then NoPaths else MissingSolution

-- the head so far, and what these lines spell
abbrev pub by_time : Head → List Line → Result SolverPaths PathsFault
by_time head [] = Err (no_times head)
by_time head (line ∷ lines) =
    if bytes_eq line.bytes (codes "solution=") then times_of head lines else
    if is_some (numbered line.bytes) then times_of head (line ∷ lines) else
    and_then (with_line head line.number line.bytes) (λ head. by_time head lines)
