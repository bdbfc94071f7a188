-- The lines of a log.
use Rattle.std.specs.Prelude.{◌≡◌, ℕ, Bool, true, not, nat_eq, ◌&&◌, List, ◌++◌, codes}
use Rattle.std.specs.List.{list_all, flat_map, starts_with}

-- bytes without a line feed
abbrev pub is_one_line : List ℕ → Bool
is_one_line line = list_all (λ byte. not (nat_eq byte 10)) line

-- the line begins as a commit line does
abbrev pub begins_commit : List ℕ → Bool
begins_commit line = starts_with nat_eq line (codes "commit ")

-- a line of an entry
abbrev pub is_entry_line : List ℕ → Bool
is_entry_line line = is_one_line line && not (begins_commit line)

-- the text of lines, each with its line feed
abbrev pub lines_text : List (List ℕ) → List ℕ
lines_text lines = flat_map (λ line. line ++ codes "\n") lines

-- the text of an entry: whole lines, of which none begins as a commit line does
pub record IsBody (text : List ℕ) : Type 0 where
  pub lines : List (List ℕ)
  pub sound : list_all is_entry_line lines ≡ true
  pub is : text ≡ lines_text lines
