-- What a planner writes, as a session hears it (this project's choice).
use Rattle.std.specs.Prelude.{ℕ, List, Option, Some, None}
use Rattle.session_lines.specs.declared.versions.LinesVersion.{LinesVersion}

-- in which version of lines it is heard, and its bytes, where they are told
pub record Input : Type 0 where
  pub lines : LinesVersion
  pub bytes : Option (List ℕ)

-- these bytes
abbrev pub told : LinesVersion → List ℕ → Input
told lines bytes = record { lines = lines; bytes = Some bytes }

-- bytes that aren't told
abbrev pub untold_input : LinesVersion → Input
untold_input lines = record { lines = lines; bytes = None }
