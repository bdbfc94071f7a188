-- The text of a scenario (MovingAI grid benchmarks, scenario format).
use Rattle.std.specs.Prelude.{◌≡◌, ℕ, ◌-◌, Bool, true, false, not, ◌&&◌, ◌||◌, Option, Some, List, [], ◌∷◌, ◌++◌, length, drop, filter, slice_get, codes, bytes_eq}
use Rattle.std.specs.Option.{option_and_then}
use Rattle.grid_cells.specs.Cell.{point}
use Rattle.grid_cells.specs.Size.{Extent, Holds}
use Rattle.bench_reader.specs.Lines.{lines_of, line_at, is_blank_line}
use Rattle.bench_reader.specs.Words.{words_of, number_of}
use Rattle.bench_reader.specs.declared.fields.Fields.{Fields}
use Rattle.bench_reader.specs.declared.tasks.Task.{Task}

-- the words of the first line, `version 1` or `version 1.0`
abbrev pub is_version : List (List ℕ) → Bool
is_version (first ∷ second ∷ []) = bytes_eq first (codes "version") && (bytes_eq second (codes "1") || bytes_eq second (codes "1.0"))
is_version _ = false

-- the number that the word in a field writes; fields count from 1
abbrev pub number_at : List (List ℕ) → ℕ → Option ℕ
number_at words field = option_and_then number_of (slice_get words (field - 1))

-- nine words, all numbers but for the map's name in field 2 and the optimal length in field 9
pub record AreFields (words : List (List ℕ)) (fields : Fields) : Type 0 where
  pub count : length words ≡ 9
  pub bucket : number_at words 1 ≡ Some fields.bucket
  pub width : number_at words 3 ≡ Some fields.width
  pub height : number_at words 4 ≡ Some fields.height
  pub start_x : number_at words 5 ≡ Some fields.start_x
  pub start_y : number_at words 6 ≡ Some fields.start_y
  pub goal_x : number_at words 7 ≡ Some fields.goal_x
  pub goal_y : number_at words 8 ≡ Some fields.goal_y

-- the task has these numbers, and its cells are on a map of that size
pub record IsPlaced (size : Extent) (fields : Fields) (task : Task) : Type 0 where
  pub bucket : task.bucket ≡ fields.bucket
  pub start : task.start ≡ point fields.start_x fields.start_y
  pub goal : task.goal ≡ point fields.goal_x fields.goal_y
  pub start_held : Holds size task.start
  pub goal_held : Holds size task.goal

-- the line is the task's, for a map of that size
pub record IsTaskLine (size : Extent) (line : List ℕ) (task : Task) : Type 0 where
  pub fields : Fields
  pub words : AreFields (words_of line) fields
  pub width : fields.width ≡ size.width
  pub height : fields.height ≡ size.height
  pub placed : IsPlaced size fields task

-- each line is that of the task in its place
abbrev pub AreTaskLines : Extent → List (List ℕ) → List Task → Type 0
AreTaskLines size [] tasks = tasks ≡ []
AreTaskLines size (line ∷ lines) [] = ⊥
AreTaskLines size (line ∷ lines) (task ∷ tasks) = IsTaskLine size line task × AreTaskLines size lines tasks

abbrev pub is_written : List ℕ → Bool
is_written line = not (is_blank_line line)

-- the tasks are those of the lines that aren't blank
abbrev pub AreTasks : Extent → List (List ℕ) → List Task → Type 0
AreTasks size lines tasks = AreTaskLines size (filter is_written lines) tasks

-- where some lines give the old tasks, those lines and this one give the new ones
abbrev pub GoesOn : Extent → List ℕ → List Task → List Task → Type 0
GoesOn size line old new = (above : List (List ℕ)) → AreTasks size above old → AreTasks size (above ++ line ∷ []) new

-- the lines are a scenario's with these tasks: the version, and a line for each task
pub record AreScenLines (size : Extent) (lines : List (List ℕ)) (tasks : List Task) : Type 0 where
  pub version : is_version (words_of (line_at lines 0)) ≡ true
  pub body : AreTasks size (drop 1 lines) tasks

-- the text is a scenario of these tasks, on a map of that size
abbrev pub IsScenText : Extent → List ℕ → List Task → Type 0
IsScenText size text tasks = AreScenLines size (lines_of text) tasks
