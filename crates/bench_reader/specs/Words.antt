-- The words of a line and the numbers that they write.
use Rattle.std.specs.Prelude.{ℕ, ◌^◌, Bool, true, not, ◌&&◌, Option, Some, None, List, [], ◌∷◌, length, nat_lt, if◌then◌else◌}
use Rattle.std.specs.Str.{all_ascii_digits}
use Rattle.std.specs.Str.Parse.{digits_value}
use Rattle.bench_reader.specs.Lines.{join_first, is_blank}

-- a byte of a word
abbrev pub is_in_word : ℕ → Bool
is_in_word byte = not (is_blank byte)

-- a word ends before this: nothing comes, or a blank
abbrev pub ends_word : List ℕ → Bool
ends_word [] = true
ends_word (byte ∷ line) = is_blank byte

-- the words of a line: its longest runs of bytes that are not blank
abbrev pub words_of : List ℕ → List (List ℕ)
words_of [] = []
words_of (byte ∷ line) = if is_blank byte then words_of line else (if ends_word line then (byte ∷ []) ∷ words_of line else join_first byte (words_of line))

-- the number that a word writes: decimal digits, leading zeros allowed, below 2 ^ 32 (this project's choice)
abbrev pub number_of : List ℕ → Option ℕ
number_of word = if nat_lt 0 (length word) && all_ascii_digits word && nat_lt (digits_value 10 word) (2 ^ 32) then Some (digits_value 10 word) else None
