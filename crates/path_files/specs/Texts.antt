-- What the text of a file of paths spells, or its first fault.
use Rattle.std.specs.Prelude.{ℕ, Bool, ◌&&◌, Option, Some, None, Result, Ok, Err, List, if◌then◌else◌}
use Rattle.std.specs.Option.{option_map_or}
use Rattle.bench_reader.specs.Lines.{lines_of}
use Rattle.path_files.specs.Lines.{Line, written_from, without_mark}
use Rattle.path_files.specs.Answers.{and_then, IsRead}
use Rattle.path_files.specs.Columns.{column_told, kept_of, behind_head}
use Rattle.path_files.specs.Forms.{form_of}
use Rattle.path_files.specs.Heads.{no_head}
use Rattle.path_files.specs.Moves.{by_rows, is_relative}
use Rattle.path_files.specs.Robots.{by_json}
use Rattle.path_files.specs.Schedules.{by_schedule}
use Rattle.path_files.specs.Times.{by_time}
use Rattle.path_files.specs.Told.{by_told}
use Rattle.path_files.specs.declared.faults.PathsFault.{PathsFault}
use Rattle.path_files.specs.declared.faults.PathsFault.TheVariants.{NoStarts}
use Rattle.path_files.specs.declared.forms.Form.{Form}
use Rattle.path_files.specs.declared.forms.Form.TheVariants.{ByTime, ByAgent, BySession, ByMoves, ByFlippedMoves, ByJson, BySchedule}
use Rattle.path_files.specs.declared.paths.SolverPaths.{SolverPaths}

-- the lines of a text that say something
abbrev pub written_in : List ℕ → List Line
written_in text = written_from 1 (lines_of text)

-- by moves: rows of them, or where the first line names a column of plans, the rows in that
abbrev pub by_moves : Form → List ℕ → Result SolverPaths PathsFault
by_moves form text =
    option_map_or (λ column. and_then (kept_of column text) (λ kept. by_rows form (behind_head (written_in kept))))
    (column_told (written_in text)) (by_rows form (written_in text))

-- in that form
abbrev pub in_form : Form → List ℕ → Result SolverPaths PathsFault
in_form ByTime text = by_time no_head (written_in text)
in_form ByAgent text = by_told ByAgent (written_in text)
in_form BySession text = by_told BySession (written_in text)
in_form ByMoves text = by_moves ByMoves text
in_form ByFlippedMoves text = by_moves ByFlippedMoves text
in_form ByJson text = by_json text
in_form BySchedule text = by_schedule (written_in text)

-- in the form that is named, else in the one that the lines tell
abbrev pub in_named_form : Option Form → List ℕ → Result SolverPaths PathsFault
in_named_form (Some form) text = in_form form text
in_named_form None text = and_then (form_of (written_in text)) (λ form. in_form form text)

-- paths that are to be set out need starts
abbrev pub with_starts_for : Bool → SolverPaths → Result SolverPaths PathsFault
with_starts_for bare spelled = if bare && is_relative spelled.form then Err NoStarts else Ok spelled

-- the paths of a text, in a form that is named or told, on a map that is bare of agents or isn't
abbrev pub paths_of : Bool → Option Form → List ℕ → Result SolverPaths PathsFault
paths_of bare named text = and_then (in_named_form named (without_mark text)) (with_starts_for bare)

-- the answer to a text
abbrev pub IsPathsAnswer : Bool → Option Form → List ℕ → Result SolverPaths PathsFault → Type 0
IsPathsAnswer bare named text answer = IsRead (paths_of bare named text) answer
