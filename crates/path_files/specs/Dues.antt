-- What may stand in a text of JSON (RFC 8259), byte by byte: what is due behind a byte where that was due, and nothing where it may not
-- stand there.
use Rattle.std.specs.Prelude.{ℕ, ◌+◌, ◌-◌, ◌==◌, ◌||◌, nat_le, nat_lt, Bool, true, false, Option, Some, None, codes, if◌then◌else◌}
use Rattle.std.specs.Char.{is_ascii_digit, is_ascii_hexdigit}
use Rattle.std.specs.List.{slice_get}
use Rattle.std.specs.Option.{option_map_or}
use Rattle.path_files.specs.declared.dues.Due.{Due}
use Rattle.path_files.specs.declared.dues.Due.TheVariants as due

-- what JSON has for blanks
abbrev pub is_space : ℕ → Bool
is_space byte = byte == 32 || byte == 9 || byte == 10 || byte == 13

-- the literals, each with a full stop behind it, have that letter there
abbrev pub is_letter : ℕ → ℕ → Bool
is_letter at byte = option_map_or (λ letter. letter == byte) (slice_get (codes "true.false.null.") at) false

-- in a literal, at that letter
abbrev pub behind_letter : ℕ → ℕ → Option Due
behind_letter at byte = if is_letter at byte then Some (if is_letter (at + 1) 46 then due.Comma else due.Letters (at + 1)) else None

-- a digit is due
abbrev pub behind_digit : Due → ℕ → Option Due
behind_digit next byte = if is_ascii_digit byte then Some next else None

-- a value begins with that byte
abbrev pub begins_value : ℕ → Option Due
begins_value byte =
    if byte == 123 then Some due.FirstKey else
    if byte == 91 then Some due.FirstItem else
    if byte == 34 then Some (due.Text false) else
    if byte == 45 then Some due.Minus else
    if byte == 48 then Some due.Zero else
    if byte == 116 then Some (due.Letters 1) else
    if byte == 102 then Some (due.Letters 6) else
    if byte == 110 then Some (due.Letters 12) else behind_digit due.Whole byte

-- behind a value, where the innermost bracket that is open is to be closed by that one
abbrev pub behind_value : Option ℕ → ℕ → Option Due
behind_value closing byte =
    if is_space byte then Some due.Comma else
    option_map_or
    (λ bracket. if byte == bracket then Some due.Comma else
    if byte == 44 then Some (if bracket == 125 then due.Key else due.Value) else None)
    closing None

-- within a text, which may be a key
abbrev pub behind_text : Bool → ℕ → Option Due
behind_text key byte =
    if byte == 34 then Some (if key then due.Colon else due.Comma) else
    if byte == 92 then Some (due.Escape key) else
    if nat_lt byte 32 then None else Some (due.Text key)

abbrev pub is_escaped : ℕ → Bool
is_escaped byte = byte == 34 || byte == 92 || byte == 47 || byte == 98 || byte == 102 || byte == 110 || byte == 114 || byte == 116

abbrev pub behind_escape : Bool → ℕ → Option Due
behind_escape key byte = if byte == 117 then Some (due.Hex key 4) else if is_escaped byte then Some (due.Text key) else None

-- of so many hexadecimal digits
abbrev pub behind_hex : Bool → ℕ → ℕ → Option Due
behind_hex key left byte = if is_ascii_hexdigit byte then Some (if nat_le left 1 then due.Text key else due.Hex key (left - 1)) else None

-- behind the whole part of a number
abbrev pub behind_whole : Option ℕ → ℕ → Option Due
behind_whole closing byte =
    if byte == 46 then Some due.Point else
    if byte == 101 || byte == 69 then Some due.Exponent else behind_value closing byte

abbrev pub behind_fraction : Option ℕ → ℕ → Option Due
behind_fraction closing byte =
    if is_ascii_digit byte then Some due.Fraction else
    if byte == 101 || byte == 69 then Some due.Exponent else behind_value closing byte

-- that byte alone
abbrev pub only : ℕ → Due → ℕ → Option Due
only mark next byte = if byte == mark then Some next else None

-- the end of a list or an object, or what may begin it
abbrev pub end_or : ℕ → ℕ → Option Due → Option Due
end_or mark byte next = if byte == mark then Some due.Comma else next

-- blanks before what is due, or that
abbrev pub space_or : Due → ℕ → Option Due → Option Due
space_or kept byte next = if is_space byte then Some kept else next

-- what is due where that was, behind that byte, if it may stand there
abbrev pub behind_byte : Option ℕ → Due → ℕ → Option Due
behind_byte closing due.Object byte = space_or due.Object byte (only 123 due.FirstKey byte)
behind_byte closing due.Value byte = space_or due.Value byte (begins_value byte)
behind_byte closing due.FirstItem byte = space_or due.FirstItem byte (end_or 93 byte (begins_value byte))
behind_byte closing due.FirstKey byte = space_or due.FirstKey byte (end_or 125 byte (only 34 (due.Text true) byte))
behind_byte closing due.Key byte = space_or due.Key byte (only 34 (due.Text true) byte)
behind_byte closing due.Colon byte = space_or due.Colon byte (only 58 due.Value byte)
behind_byte closing due.Comma byte = behind_value closing byte
behind_byte closing (due.Text key) byte = behind_text key byte
behind_byte closing (due.Escape key) byte = behind_escape key byte
behind_byte closing (due.Hex key left) byte = behind_hex key left byte
behind_byte closing (due.Letters at) byte = behind_letter at byte
behind_byte closing due.Minus byte = if byte == 48 then Some due.Zero else behind_digit due.Whole byte
behind_byte closing due.Zero byte = behind_whole closing byte
behind_byte closing due.Whole byte = if is_ascii_digit byte then Some due.Whole else behind_whole closing byte
behind_byte closing due.Point byte = behind_digit due.Fraction byte
behind_byte closing due.Fraction byte = behind_fraction closing byte
behind_byte closing due.Exponent byte = if byte == 43 || byte == 45 then Some due.Sign else behind_digit due.Power byte
behind_byte closing due.Sign byte = behind_digit due.Power byte
behind_byte closing due.Power byte = if is_ascii_digit byte then Some due.Power else behind_value closing byte
