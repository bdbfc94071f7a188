-- What one call at a source gave, and what one call at a sink took (this project's choice).
use Rattle.std.specs.Prelude.{◌≡◌, ℕ, List, [], ◌∷◌, ◌++◌, take, Option, Some, None, Result, Ok, Err, OnOk, OnErr, Bool, is_err, ◌||◌}
use Rattle.std.specs.Io.KnownBytes.{Appends}
use Rattle.desk_report.specs.declared.bytes.source.ReadFailed.{ReadFailed}

-- what a call at a source may give, and the source that it then leaves
abbrev pub Giving : Type 0 → Type 1
Giving S = S → Result (Option ℕ) ReadFailed → S → Type 0

-- the bytes that a call gave: one, or none at the end and where it failed
abbrev pub bytes_got : {E : Type 0} → Result (Option ℕ) E → List ℕ
bytes_got (Ok (Some byte)) = byte ∷ []
bytes_got (Ok None) = []
bytes_got (Err fault) = []

-- the bytes that a call took: a front of those handed in, or none where it failed
abbrev pub bytes_put : {E : Type 0} → Result ℕ E → List ℕ → List ℕ
bytes_put (Ok n) bytes = take n bytes
bytes_put (Err fault) bytes = []

-- the bytes grew by a prefix of the text
pub record AppendsFront (old new : Option (List ℕ)) (text : List ℕ) : Type 0 where
  pub sent : List ℕ
  pub unsent : List ℕ
  pub split : text ≡ sent ++ unsent
  pub appends : Appends old new sent

-- the text went out, or where the call failed a prefix of it, and the sink is broken from then on
pub record Puts {S T E : Type 0} (held : S → Option (List ℕ)) (is_broken : S → Bool) (old new : S) (result : Result T E) (text : List ℕ) : Type 0 where
  pub ok : OnOk result (Appends (held old) (held new) text)
  pub err : OnErr result (AppendsFront (held old) (held new) text)
  pub broken : is_broken new ≡ (is_broken old || is_err result)
