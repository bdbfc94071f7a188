-- How a text falls into lines, and what is blank.
use Rattle.std.specs.Prelude.{◌≡◌, ℕ, ◌+◌, Bool, true, false, ◌||◌, ◌==◌, List, [], ◌∷◌, ◌++◌, length, if◌then◌else◌, slice_index_or}
use Rattle.std.specs.List.{list_all}

-- the byte joins the first line
abbrev pub join_first : ℕ → List (List ℕ) → List (List ℕ)
join_first byte [] = (byte ∷ []) ∷ []
join_first byte (line ∷ lines) = (byte ∷ line) ∷ lines

-- the lines of a text: each ends at a line feed, and a last one without it counts if it is not empty
abbrev pub lines_of : List ℕ → List (List ℕ)
lines_of [] = []
lines_of (byte ∷ text) = if byte == 10 then [] ∷ lines_of text else join_first byte (lines_of text)

-- the line at an index, and the empty one where there is none
abbrev pub line_at : List (List ℕ) → ℕ → List ℕ
line_at lines k = slice_index_or lines k []

-- space, tab and carriage return (this project's choice)
abbrev pub is_blank : ℕ → Bool
is_blank byte = byte == 32 || byte == 9 || byte == 13

-- a line of blanks alone, or of nothing
abbrev pub is_blank_line : List ℕ → Bool
is_blank_line line = list_all is_blank line

-- a line without the blanks at its end
abbrev pub row_of : List ℕ → List ℕ
row_of [] = []
row_of (byte ∷ line) = if is_blank_line (byte ∷ line) then [] else byte ∷ row_of line

-- where lines count from a first number: the number of the first one that isn't blank
pub record IsFirstWritten (lines : List (List ℕ)) (first number : ℕ) : Type 0 where
  pub blanks : List (List ℕ)
  pub line : List ℕ
  pub rest : List (List ℕ)
  pub split : lines ≡ blanks ++ line ∷ rest
  pub blank : list_all is_blank_line blanks ≡ true
  pub written : is_blank_line line ≡ false
  pub count : number ≡ first + length blanks
