-- What the reads of a session gave: none failed, or the last one alone; and how many bytes came (this project's choice).
use Rattle.std.specs.Prelude.{◌≡◌, ℕ, ◌+◌, ◌≤◌, List, [], ◌∷◌, length, map, Option, Result, Ok, Err, Bool, true, false}
use Rattle.desk_report.specs.Bytes.{Giving, bytes_got}
use Rattle.desk_report.specs.declared.bytes.source.ReadFailed.{ReadFailed}

-- one read after the other gives these, a byte, the end or a failure, and leaves the new source
abbrev pub Calls : {S : Type 0} → Giving S → S → List (Result (Option ℕ) ReadFailed) → S → Type 0
Calls gives old [] new = new ≡ old
Calls {S} gives old (got ∷ later) new = (mid : S) × gives old got mid × Calls gives mid later new

-- no read failed
pub record NoneFailed {S : Type 0} (gives : Giving S) (old new : S) : Type 0 where
  pub given : List (Option ℕ)
  pub reads : Calls gives old (map Ok given) new

-- the last read failed, and none before it
pub record LastFailed {S : Type 0} (gives : Giving S) (old new : S) : Type 0 where
  pub before : S
  pub well : NoneFailed gives old before
  pub why : ReadFailed
  pub failed : gives before (Err why) new

-- no read was made after one that failed
abbrev pub ReadsUntil : {S : Type 0} → Giving S → S → S → Bool → Type 0
ReadsUntil gives old new false = NoneFailed gives old new
ReadsUntil gives old new true = LastFailed gives old new

-- how many bytes they gave
abbrev pub bytes_among : List (Result (Option ℕ) ReadFailed) → ℕ
bytes_among [] = 0
bytes_among (got ∷ later) = length (bytes_got got) + bytes_among later

-- no more than so many bytes were taken from the source, whether its bytes are told or not
pub record TakesAtMost {S : Type 0} (gives : Giving S) (most : ℕ) (old new : S) : Type 0 where
  pub given : List (Result (Option ℕ) ReadFailed)
  pub calls : Calls gives old given new
  pub few : bytes_among given ≤ most

-- no read was made after one that failed, and no more than so many bytes were taken
pub record ReadsWithin {S : Type 0} (gives : Giving S) (most : ℕ) (old new : S) (failed : Bool) : Type 0 where
  pub reads : ReadsUntil gives old new failed
  pub bounded : TakesAtMost gives most old new
