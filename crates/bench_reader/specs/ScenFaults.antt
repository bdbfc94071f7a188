-- Which fault of a scenario's text is the first (the order is this project's choice).
use Rattle.std.specs.Prelude.{◌≡◌, ◌≢◌, ℕ, ◌+◌, ◌<◌, ◌≤◌, true, false, ◌⊎◌, Some, List, [], ◌∷◌, ◌++◌, length, drop, is_none, find, Result, MatchResult}
use Rattle.grid_cells.specs.Cell.{point}
use Rattle.grid_cells.specs.Size.{Extent, Holds}
use Rattle.bench_reader.specs.Lines.{lines_of, line_at}
use Rattle.bench_reader.specs.Words.{words_of}
use Rattle.bench_reader.specs.ScenText.{is_version, number_at, is_written, AreFields, AreTasks, IsScenText}
use Rattle.bench_reader.specs.declared.fields.Fields.{Fields}
use Rattle.bench_reader.specs.declared.tasks.Task.{Task}
use Rattle.bench_reader.specs.declared.scens.ScenFault.{ScenFault}
use Rattle.bench_reader.specs.declared.scens.ScenFault.TheVariants.{BadVersion, FieldCount, BadNumber, SizeMismatch, OutOfMap, OutOfMemory}

-- nine words, and this is the first of the number fields without a number
abbrev pub IsBadField : List (List ℕ) → ℕ → Type 0
IsBadField words field = (length words ≡ 9)
    × (find (λ field. is_none (number_at words field)) (1 ∷ 3 ∷ 4 ∷ 5 ∷ 6 ∷ 7 ∷ 8 ∷ []) ≡ Some field)

-- the numbers are for a map of another size
abbrev pub IsOtherSize : Extent → Fields → Type 0
IsOtherSize size fields = (fields.width ≢ size.width) ⊎ (fields.height ≢ size.height)

-- this is the first of the fields 5 to 8 that lies off the map
abbrev pub IsOffMap : Extent → Fields → ℕ → Type 0
IsOffMap size fields field =
    ((field ≡ 5) × (size.width ≤ fields.start_x))
    ⊎ ((field ≡ 6) × (fields.start_x < size.width) × (size.height ≤ fields.start_y))
    ⊎ ((field ≡ 7) × Holds size (point fields.start_x fields.start_y) × (size.width ≤ fields.goal_x))
    ⊎ ((field ≡ 8) × Holds size (point fields.start_x fields.start_y) × (fields.goal_x < size.width) × (size.height ≤ fields.goal_y))

-- the first fault of a line with that number
abbrev pub IsLineFault : Extent → ℕ → List ℕ → ScenFault → Type 0
IsLineFault size number line BadVersion = ⊥
IsLineFault size number line (FieldCount at) = (at ≡ number) × (length (words_of line) ≢ 9)
IsLineFault size number line (BadNumber at field) = (at ≡ number) × IsBadField (words_of line) field
IsLineFault size number line (SizeMismatch at) = (at ≡ number) × (fields : Fields) × AreFields (words_of line) fields × IsOtherSize size fields
IsLineFault size number line (OutOfMap at field) = (at ≡ number) × (fields : Fields) × AreFields (words_of line) fields
    × (fields.width ≡ size.width) × (fields.height ≡ size.height) × IsOffMap size fields field
IsLineFault size number line OutOfMemory = ⊥

-- behind the version and lines that give tasks comes a line with the fault
pub record IsBadLine (size : Extent) (lines : List (List ℕ)) (fault : ScenFault) : Type 0 where
  pub version : is_version (words_of (line_at lines 0)) ≡ true
  pub above : List (List ℕ)
  pub line : List ℕ
  pub below : List (List ℕ)
  pub tasks : List Task
  pub split : drop 1 lines ≡ above ++ line ∷ below
  pub good : AreTasks size above tasks
  pub written : is_written line ≡ true
  pub first : IsLineFault size (2 + length above) line fault

-- the first fault of a text with these lines; memory is asked for only behind a good version
abbrev pub IsScenFault : Extent → List (List ℕ) → ScenFault → Type 0
IsScenFault size lines BadVersion = is_version (words_of (line_at lines 0)) ≡ false
IsScenFault size lines (FieldCount at) = IsBadLine size lines (FieldCount at)
IsScenFault size lines (BadNumber at field) = IsBadLine size lines (BadNumber at field)
IsScenFault size lines (SizeMismatch at) = IsBadLine size lines (SizeMismatch at)
IsScenFault size lines (OutOfMap at field) = IsBadLine size lines (OutOfMap at field)
IsScenFault size lines OutOfMemory = is_version (words_of (line_at lines 0)) ≡ true

-- the answer to a text, for a map of that size: its tasks, or its first fault
abbrev pub IsScenAnswer : Extent → List ℕ → Result (List Task) ScenFault → Type 0
IsScenAnswer size text answer = MatchResult answer (IsScenText size text) (IsScenFault size (lines_of text))
