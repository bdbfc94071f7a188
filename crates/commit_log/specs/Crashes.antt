-- What a log has, and what a crash leaves of it.
use Rattle.std.specs.Prelude.{◌≡◌, ℕ, List, ◌++◌, length, take, Option, Some}
use Rattle.std.specs.Io.KnownBytes.{Appends}
use Rattle.commit_log.specs.Reads.{IsUnsealed}
use Rattle.commit_log.specs.Text.{last_check, head_check, log_text}

-- a front of the bytes was put behind the known ones
abbrev pub AppendsSome : Option (List ℕ) → Option (List ℕ) → List ℕ → Type 0
AppendsSome old new bytes = (n : ℕ) × Appends old new (take n bytes)

-- a crash leaves a front of a log's text, which has at least what is kept
pub record MayLeave (kept text : Option (List ℕ)) (left : List ℕ) : Type 0 where
  pub whole : List ℕ
  pub least : List ℕ
  pub text_is : text ≡ Some whole
  pub kept_is : kept ≡ Some least
  pub more : List ℕ
  pub lost : List ℕ
  pub begins : left ≡ least ++ more
  pub front : whole ≡ left ++ lost

-- the text is that of the entries, and of nothing that is whole behind them
pub record IsLogOf (head : List ℕ) (entries : List (List ℕ)) (text : List ℕ) : Type 0 where
  pub rest : List ℕ
  pub unsealed : IsUnsealed rest
  pub is : text ≡ log_text head entries ++ rest

-- so many entries, of which the last has that CHECK
pub record Counts (head : List ℕ) (entries : List (List ℕ)) (count : ℕ) (check : List ℕ) : Type 0 where
  pub count_is : count ≡ length entries
  pub check_is : check ≡ last_check (head_check head) entries
