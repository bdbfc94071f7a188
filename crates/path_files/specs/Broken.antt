-- Where a text that should be an object of JSON goes wrong: at the first byte that may not stand there, or at its end, also where each
-- byte may (of a text that isn't UTF-8, has half of a surrogate pair, nests more than 127 levels, or has a number beyond all floats).
use Rattle.std.specs.Prelude.{ℕ, ◌+◌, ◌-◌, ◌==◌, ◌||◌, Bool, true, false, Option, List, [], ◌∷◌, ◌++◌, length, take, if◌then◌else◌}
use Rattle.std.specs.List.{slice_get}
use Rattle.std.specs.Option.{option_map_or}
use Rattle.path_files.specs.Dues.{behind_byte}
use Rattle.path_files.specs.declared.dues.Due.{Due}
use Rattle.path_files.specs.declared.dues.Due.TheVariants as due
use Rattle.path_files.specs.declared.faults.PathsFault.{PathsFault}
use Rattle.path_files.specs.declared.faults.PathsFault.TheVariants.{BadJson}

-- the text of a key or a value isn't over
abbrev pub is_in_text : Due → Bool
is_in_text (due.Text key) = true
is_in_text (due.Escape key) = true
is_in_text (due.Hex key left) = true
is_in_text _ = false

-- what closes the brackets that are open behind that byte, the innermost last
abbrev pub closing_behind : Due → List ℕ → ℕ → List ℕ
closing_behind kept closing byte =
    if is_in_text kept then closing else
    if byte == 123 then closing ++ 125 ∷ [] else
    if byte == 91 then closing ++ 93 ∷ [] else
    if byte == 125 || byte == 93 then take (length closing - 1) closing else closing

-- what closes the innermost bracket
abbrev pub innermost : List ℕ → Option ℕ
innermost closing = slice_get closing (length closing - 1)

-- the fault of a text of which this is left, at that place, where lines count from 1 and the bytes of a line from 0
abbrev pub broken_from : Due → List ℕ → ℕ → ℕ → List ℕ → PathsFault
broken_from kept closing line column [] = BadJson line column
broken_from kept closing line column (byte ∷ text) =
    option_map_or
    (λ next. broken_from next (closing_behind kept closing byte) (if byte == 10 then line + 1 else line) (if byte == 10 then 0 else column + 1) text)
    (behind_byte (innermost closing) kept byte) (BadJson line column)

abbrev pub broken_in : List ℕ → PathsFault
broken_in text = broken_from due.Object [] 1 0 text
