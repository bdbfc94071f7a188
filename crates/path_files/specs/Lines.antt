-- The lines of a file of paths, and what their parts are (blanks as in the texts of maps and scenarios).
use Rattle.std.specs.Prelude.{ℕ, ◌+◌, ◌==◌, ◌||◌, Bool, Option, Some, None, List, [], ◌∷◌, take, drop, codes, is_some, unwrap_or, if◌then◌else◌}
use Rattle.std.specs.Option.{option_map, option_and_then}
use Rattle.std.specs.List.{position}
use Rattle.bench_reader.specs.Lines.{is_blank, is_blank_line, row_of}
use Rattle.bench_reader.specs.Words.{number_of}

-- a line without the blanks at its front
abbrev pub behind_blanks : List ℕ → List ℕ
behind_blanks [] = []
behind_blanks (byte ∷ line) = if is_blank byte then behind_blanks line else byte ∷ line

-- a line without the blanks at its ends
abbrev pub trimmed : List ℕ → List ℕ
trimmed line = behind_blanks (row_of line)

-- a line and its number
pub record Line : Type 0 where
  pub number : ℕ
  pub bytes : List ℕ

abbrev pub written : ℕ → List ℕ → Line
written number bytes = record { number = number; bytes = bytes }

-- what stands behind a prefix, where the text begins with it
abbrev pub behind : List ℕ → List ℕ → Option (List ℕ)
behind [] text = Some text
behind (first ∷ prefix) [] = None
behind (first ∷ prefix) (byte ∷ text) = if byte == first then behind prefix text else None

-- a text cut at the first such byte: what stands before it, and what stands behind it
abbrev pub cut : ℕ → List ℕ → Option (List ℕ × List ℕ)
cut mark text = option_map (λ place. (take place text, drop (place + 1) text)) (position (λ byte. byte == mark) text)

-- a number, and what stands behind it and a colon, where the line begins with them
abbrev pub numbered : List ℕ → Option (ℕ × List ℕ)
numbered line = option_and_then (λ parts. option_map (λ number. (number, parts.1)) (number_of (trimmed parts.0))) (cut 58 line)

-- a line that says nothing: of blanks, or a remark, which begins with `#`
abbrev pub is_silent : List ℕ → Bool
is_silent line = is_blank_line line || is_some (behind (codes "#") (behind_blanks line))

-- the lines that say something, where all lines count from a first number
abbrev pub written_from : ℕ → List (List ℕ) → List Line
written_from number [] = []
written_from number (line ∷ lines) =
    if is_silent line then written_from (number + 1) lines else written number (trimmed line) ∷ written_from (number + 1) lines

-- a text without the mark of its byte order in UTF-8
abbrev pub without_mark : List ℕ → List ℕ
without_mark text = unwrap_or (behind (239 ∷ 187 ∷ 191 ∷ []) text) text
