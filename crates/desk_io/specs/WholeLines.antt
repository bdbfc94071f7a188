-- A source of whole lines: it hands on what another gives, and fails where that ends within a line (this project's choice).
use Rattle.std.specs.Prelude.{◌≡◌, ℕ, Option, Some, None, Result, Ok, Bool, true, not, nat_eq, IsTrue, is_err}
use Rattle.desk_report.specs.Bytes.{Giving}
use Rattle.desk_report.specs.declared.bytes.source.ReadFailed.{ReadFailed}

-- what is handed on, within a line or not: an end within one as a failure, and all else as it was given
abbrev pub IsHandedOn : Bool → (given got : Result (Option ℕ) ReadFailed) → Type 0
IsHandedOn true (Ok None) got = IsTrue (is_err got)
IsHandedOn within given got = got ≡ given

-- whether the bytes so far end within a line, after one more call
abbrev pub is_within_after : Bool → Result (Option ℕ) ReadFailed → Bool
is_within_after within (Ok (Some byte)) = not (nat_eq byte 10)
is_within_after within got = within

-- one call: what the other source gave was handed on, and it is remembered whether that ended a line
pub record HandsOn {S : Type 0} (gives : Giving S) (old : S) (old_within : Bool) (got : Result (Option ℕ) ReadFailed) (new : S) (new_within : Bool) : Type 0 where
  pub given : Result (Option ℕ) ReadFailed
  pub gave : gives old given new
  pub handed : IsHandedOn old_within given got
  pub within : new_within ≡ is_within_after old_within given
