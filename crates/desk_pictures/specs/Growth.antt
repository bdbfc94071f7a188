-- What a sink took, where a text is told in part (this project's choice).
use Rattle.std.specs.Prelude.{ℕ, List, ◌++◌, Option}
use Rattle.std.specs.Io.KnownBytes.{Appends}

-- the bytes grew by some text
pub record Grows (old new : Option (List ℕ)) : Type 0 where
  pub text : List ℕ
  pub appends : Appends old new text

-- the bytes grew by a text that has this one in it
pub record GrowsAround (old new : Option (List ℕ)) (text : List ℕ) : Type 0 where
  pub before : List ℕ
  pub behind : List ℕ
  pub appends : Appends old new (before ++ text ++ behind)
