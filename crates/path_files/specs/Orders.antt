-- In which order the cells of a text of paths have their coordinates (as the solvers of each form print them).
use Rattle.std.specs.Prelude.{ℕ, Bool, true, false, Option, Some, None, Result, Ok, Err, List}
use Rattle.bench_reader.specs.Lines.{lines_of}
use Rattle.path_files.specs.Forms.{form_of}
use Rattle.path_files.specs.Lines.{without_mark, written_from}
use Rattle.path_files.specs.declared.faults.PathsFault.{PathsFault}
use Rattle.path_files.specs.declared.forms.Form.{Form}
use Rattle.path_files.specs.declared.forms.Form.TheVariants.{ByTime, ByAgent, BySession, ByMoves, ByFlippedMoves, ByJson, BySchedule}

-- row and column by agent and as JSON, column and row else
abbrev pub is_row_first : Form → Bool
is_row_first ByTime = false
is_row_first ByAgent = true
is_row_first BySession = false
is_row_first ByMoves = false
is_row_first ByFlippedMoves = false
is_row_first ByJson = true
is_row_first BySchedule = false

abbrev pub is_told_row_first : Result Form PathsFault → Bool
is_told_row_first (Ok form) = is_row_first form
is_told_row_first (Err fault) = false

-- of a text in a form that is named, else in the one that its lines tell
abbrev pub has_rows_first : Option Form → List ℕ → Bool
has_rows_first (Some form) text = is_row_first form
has_rows_first None text = is_told_row_first (form_of (written_from 1 (lines_of (without_mark text))))
