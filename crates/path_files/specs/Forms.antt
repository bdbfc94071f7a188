-- The forms of files of paths, and how their lines tell them (this project's choice).
use Rattle.std.specs.Prelude.{ℕ, Bool, true, false, ◌==◌, ◌||◌, Option, Some, None, Result, Ok, Err, List, [], ◌∷◌, codes, bytes_eq, is_some, if◌then◌else◌}
use Rattle.std.specs.List.{list_any}
use Rattle.std.specs.Option.{option_map_or}
use Rattle.std.specs.Char.{is_ascii_digit}
use Rattle.bench_reader.specs.Words.{words_of}
use Rattle.path_files.specs.Columns.{column_in}
use Rattle.path_files.specs.Lines.{Line, behind, numbered}
use Rattle.path_files.specs.Moves.{is_of_moves}
use Rattle.path_files.specs.ScheduleLines.{begins_schedule, is_scheduled, is_statistics}
use Rattle.path_files.specs.declared.faults.PathsFault.{PathsFault}
use Rattle.path_files.specs.declared.faults.PathsFault.TheVariants.{NoForm, NoPaths}
use Rattle.path_files.specs.declared.forms.Form.{Form}
use Rattle.path_files.specs.declared.forms.Form.TheVariants.{ByTime, ByAgent, BySession, ByMoves, ByFlippedMoves, ByJson, BySchedule}

-- the line is `key=value`
abbrev pub is_told : List ℕ → Bool
is_told line = list_any (λ byte. byte == 61) line

-- the line is an agent's
abbrev pub is_of_agent : List ℕ → Bool
is_of_agent line = is_some (behind (codes "Agent ") line)

-- its first word is `path`
abbrev pub is_of_session : List (List ℕ) → Bool
is_of_session [] = false
is_of_session (word ∷ words) = bytes_eq word (codes "path")

-- the line is `solution=`, or begins with a number and a colon
abbrev pub is_of_times : List ℕ → Bool
is_of_times line = bytes_eq line (codes "solution=") || is_some (numbered line)

-- the line begins a schedule, or the statistics before it
abbrev pub is_of_schedule : List ℕ → Bool
is_of_schedule line = begins_schedule line || is_statistics line

-- the form that a line tells
abbrev pub told_by : List ℕ → Option Form
told_by line =
    if is_of_agent line then Some ByAgent else
    if is_of_session (words_of line) then Some BySession else
    if is_of_times line then Some ByTime else
    if is_of_schedule line then Some BySchedule else
    if is_of_moves line || is_some (column_in line) then Some ByMoves else None

-- the form where no line tells one, behind that line
abbrev pub usual_behind : Result Form PathsFault → List ℕ → Result Form PathsFault
usual_behind usual line = if is_told line then Ok ByTime else usual

-- the form that the first of these lines tells which tells one; else a line `key=value` tells one by time
abbrev pub form_among : Result Form PathsFault → List Line → Result Form PathsFault
form_among usual [] = usual
form_among usual (line ∷ lines) = option_map_or (λ form. Ok form) (told_by line.bytes) (form_among (usual_behind usual line.bytes) lines)

-- the line begins an object of JSON
abbrev pub is_of_json : List ℕ → Bool
is_of_json line = is_some (behind (codes "{") line)

-- the form that a text's lines tell; by JSON the first one alone tells it
abbrev pub form_of : List Line → Result Form PathsFault
form_of [] = Err NoPaths
form_of (line ∷ lines) = if is_of_json line.bytes then Ok ByJson else form_among (Err (NoForm line.number)) (line ∷ lines)

-- the line may be one of the paths in that form; other lines may stand before these and behind them, but not in a session or among moves
abbrev pub is_of_paths : Form → List ℕ → Bool
is_of_paths ByTime [] = false
is_of_paths ByTime (byte ∷ line) = is_ascii_digit byte
is_of_paths ByAgent line = is_of_agent line
is_of_paths BySession line = true
is_of_paths ByMoves line = true
is_of_paths ByFlippedMoves line = true
is_of_paths ByJson line = true
is_of_paths BySchedule line = is_scheduled line

-- one of the lines may be
abbrev pub has_paths : Form → List Line → Bool
has_paths form lines = list_any (λ line. is_of_paths form line.bytes) lines
