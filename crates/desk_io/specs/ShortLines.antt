-- A source of lines that aren't too long: it hands on what another gives, and fails where a line has as many bytes as it may have, and no LF (this project's choice).
use Rattle.std.specs.Prelude.{◌≡◌, ℕ, ◌+◌, ◌<◌, ◌≤◌, ◌⊎◌, if◌then◌else◌, Option, Some, Result, Ok, Bool, true, nat_eq, IsTrue, is_err}
use Rattle.desk_report.specs.Bytes.{Giving}
use Rattle.desk_report.specs.declared.bytes.source.ReadFailed.{ReadFailed}
use Rattle.desk_io.specs.declared.short_lines.TheConstants.{MOST_LINE}

-- how many bytes of a line were handed on, after one more call
abbrev pub length_after : ℕ → Result (Option ℕ) ReadFailed → ℕ
length_after length (Ok (Some byte)) = if nat_eq byte 10 then 0 else length + 1
length_after length got = length

-- one call within a line that may have more bytes: what the other source gave was handed on
pub record HandsOnOne {S : Type 0} (gives : Giving S) (old : S) (old_length : ℕ) (old_cut : Bool) (got : Result (Option ℕ) ReadFailed) (new : S) (new_length : ℕ) (new_cut : Bool) : Type 0 where
  pub room : old_length < MOST_LINE
  pub gave : gives old got new
  pub length : new_length ≡ length_after old_length got
  pub cut : new_cut ≡ old_cut

-- one call within a line that may have no more: nothing is read
pub record IsCutOff {S : Type 0} (old : S) (old_length : ℕ) (got : Result (Option ℕ) ReadFailed) (new : S) (new_length : ℕ) (new_cut : Bool) : Type 0 where
  pub full : MOST_LINE ≤ old_length
  pub fails : IsTrue (is_err got)
  pub unread : new ≡ old
  pub length : new_length ≡ old_length
  pub cut : new_cut ≡ true

-- one call
abbrev pub HandsOnShort : {S : Type 0} → Giving S → S → ℕ → Bool → Result (Option ℕ) ReadFailed → S → ℕ → Bool → Type 0
HandsOnShort gives old old_length old_cut got new new_length new_cut =
    HandsOnOne gives old old_length old_cut got new new_length new_cut ⊎ IsCutOff old old_length got new new_length new_cut
