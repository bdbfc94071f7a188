-- What a word of a session line stands for (this project's choice of words and ranges).
use Rattle.std.specs.Prelude.{ℕ, ◌^◌, Bool, ◌&&◌, ◌==◌, nat_lt, nat_le, Option, Some, None, List, length, if◌then◌else◌}
use Rattle.std.specs.Option.{option_and_then}
use Rattle.std.specs.List.{before_first, after_first}
use Rattle.std.specs.Str.{all_ascii_digits}
use Rattle.std.specs.Str.Parse.{digits_value}
use Rattle.grid_cells.specs.Cell.{Point, point}
use Rattle.grid_cells.specs.declared.numbers.TheConstants.{MOST_AGENT}
use Rattle.grid_cells.specs.declared.sizes.TheConstants.{MOST_SIDE}
use Rattle.bench_reader.specs.Words.{number_of}
use Rattle.session_lines.specs.declared.values.TheConstants.{MOST_SECONDS}

-- a value of two, where both are given
abbrev pub with_both : {A B C : Type 0} → (A → B → C) → Option A → Option B → Option C
with_both f (Some a) (Some b) = Some (f a b)
with_both f (Some a) None = None
with_both f None b = None

-- a value of three, where all are given
abbrev pub with_all : {A B C D : Type 0} → (A → B → C → D) → Option A → Option B → Option C → Option D
with_all f (Some a) (Some b) (Some c) = Some (f a b c)
with_all f (Some a) (Some b) None = None
with_all f (Some a) None c = None
with_all f None b c = None

-- the number, if it is in the range
abbrev pub number_within : (ℕ → Bool) → List ℕ → Option ℕ
number_within range word = option_and_then (λ n. if range n then Some n else None) (number_of word)

-- AGENT: a number from 0 to 65,535
abbrev pub agent_of : List ℕ → Option ℕ
agent_of word = number_within (λ n. nat_le n MOST_AGENT) word

-- TIME: a number from 0 to 4,294,967,295, which is each below 2^32
abbrev pub time_named : List ℕ → Option ℕ
time_named word = number_of word

-- VERSION: decimal digits, leading zeros allowed, below 2^64
abbrev pub version_named : List ℕ → Option ℕ
version_named word = if nat_lt 0 (length word) && all_ascii_digits word && nat_lt (digits_value 10 word) (2 ^ 64) then Some (digits_value 10 word) else None

-- SECONDS: a number from 0 to 86,400, a day
abbrev pub seconds_of : List ℕ → Option ℕ
seconds_of word = number_within (λ n. nat_le n MOST_SECONDS) word

-- a column or a row: a number from 0 to 2,047
abbrev pub place_of : List ℕ → Option ℕ
place_of word = number_within (λ n. nat_lt n MOST_SIDE) word

abbrev pub is_comma : ℕ → Bool
is_comma byte = byte == 44

-- a cell, `X,Y`: its column stands before the first comma, and its row behind it
abbrev pub cell_of : List ℕ → Option Point
cell_of word = with_both point (place_of (before_first is_comma word)) (place_of (after_first is_comma word))
