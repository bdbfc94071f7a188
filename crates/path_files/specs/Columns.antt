-- A column of a text of comma-separated values (RFC 4180): fields are parted by commas, and one in quotes may have commas and line feeds.
-- What isn't of the column is blank, so that lines keep their numbers, and so are the quotes; but of two within a field, which stand for
-- one, the second is kept.
use Rattle.std.specs.Prelude.{ℕ, ◌+◌, ◌==◌, ◌||◌, ◌&&◌, Bool, false, not, Option, Some, None, Result, Ok, Err, List, [], ◌∷◌, ◌++◌, codes, bytes_eq, if◌then◌else◌}
use Rattle.std.specs.Option.{option_or}
use Rattle.path_files.specs.Lines.{Line, trimmed}
use Rattle.path_files.specs.declared.faults.PathsFault.{PathsFault}
use Rattle.path_files.specs.declared.faults.PathsFault.TheVariants.{OpenQuote}
use Rattle.path_files.specs.declared.columns.Place.{Place}

-- the field names the column of plans, in quotes or without
abbrev pub names_plans : List ℕ → Bool
names_plans field = bytes_eq (trimmed field) (codes "solution_plan") || bytes_eq (trimmed field) (34 ∷ codes "solution_plan" ++ 34 ∷ [])

-- the field of that number, if it names the column
abbrev pub column_at : ℕ → List ℕ → Option ℕ
column_at number field = if names_plans field then Some number else None

-- the first field that names it, where the one of that number has this front, and these bytes stand behind; a comma in quotes parts none
abbrev pub column_from : Bool → ℕ → List ℕ → List ℕ → Option ℕ
column_from quoted number front [] = column_at number front
column_from quoted number front (byte ∷ line) =
    if byte == 44 && not quoted then option_or (column_at number front) (column_from false (number + 1) [] line)
    else column_from (if byte == 34 then not quoted else quoted) number (front ++ byte ∷ []) line

-- the column of plans in a head line
abbrev pub column_in : List ℕ → Option ℕ
column_in line = column_from false 0 [] line

-- where a text begins: in its first field, outside quotes
abbrev pub at_front : Place
at_front = record { field = 0; quoted = false; closed = false }

-- where it is behind that byte
abbrev pub behind_byte : Place → ℕ → Place
behind_byte place byte =
    if byte == 34 then record place { quoted = not place.quoted; closed = place.quoted } else
    if place.quoted then place else
    if byte == 44 then record place { field = place.field + 1; closed = false } else
    if byte == 10 then record place { field = 0; closed = false } else record place { closed = false }

-- what is kept of the byte there, for that column
abbrev pub kept_byte : ℕ → Place → ℕ → ℕ
kept_byte column place byte =
    if byte == 10 then byte else
    if byte == 34 && not place.closed then 32 else
    if byte == 44 && not place.quoted then 32 else
    if place.field == column then byte else 32

-- what is kept so far, and of this text from that place on, where no quote may stay open
abbrev pub kept_from : ℕ → Place → List ℕ → List ℕ → Result (List ℕ) PathsFault
kept_from column place kept [] = if place.quoted then Err OpenQuote else Ok kept
kept_from column place kept (byte ∷ text) = kept_from column (behind_byte place byte) (kept ++ kept_byte column place byte ∷ []) text

-- what is kept of a text
abbrev pub kept_of : ℕ → List ℕ → Result (List ℕ) PathsFault
kept_of column text = kept_from column at_front [] text

-- the column of plans that the first of these lines tells
abbrev pub column_told : List Line → Option ℕ
column_told [] = None
column_told (line ∷ lines) = column_in line.bytes

-- the lines behind the first one
abbrev pub behind_head : List Line → List Line
behind_head [] = []
behind_head (line ∷ lines) = lines
