-- What a call does to what is behind a handle (this project's choice).
use Rattle.std.specs.Prelude.{◌≡◌, ◌+◌, ◌-◌, ◌^◌, ◌++◌, min, ℕ, List, [], length, take, drop, Option, Some, None, Result, Ok, Err, Bool, true, false, OnOk, OnErr}
use Rattle.std.specs.Io.KnownBytes.{Appends}
use Rattle.desk_report.specs.Bytes.{AppendsFront}
use Rattle.desk_commits.specs.Counting.{desk_counting}
use Rattle.session_lines.specs.declared.versions.LinesVersion.TheVariants.{Two}
use Rattle.session_protocol.specs.Answer.{answering_in}
use Rattle.session_protocol.specs.Session.{IsAnswered}
use Rattle.session_protocol.specs.declared.bounds.ServeFault.{ServeFault}
use Rattle.session_protocol.specs.declared.bounds.ServeFault.TheVariants.{WriteFailed}
use Rattle.journal_text.specs.Lines.{journal_text}
use Rattle.desk_c.specs.declared.states.OpenDesk.{OpenDesk}
use Rattle.desk_c.specs.declared.states.Opening.{Opening}
use Rattle.desk_c.specs.declared.states.Opening.TheVariants.{Open, Refused}
use Rattle.desk_c.specs.declared.states.State.{State}

-- whether a desk is open
abbrev pub is_open : Opening → Bool
is_open (Open desk) = true
is_open (Refused fault) = false

-- a whole answer, or one that memory ran out of
abbrev pub outcome : Bool → Result (Unit {0}) ServeFault
outcome true = Ok tt
outcome false = Err WriteFailed

-- the number of the line after; past the greatest number it stays
abbrev pub next_number : ℕ → ℕ
next_number n = min (n + 1) (2 ^ 32 - 1)

-- the line was answered as the session's next, whole or in part
pub record IsHeard (is_whole : Bool) (old : OpenDesk) (line answer : List ℕ) (new : OpenDesk) : Type 0 where
  pub numbered : new.lines ≡ next_number old.lines
  pub answered : IsAnswered (answering_in Two desk_counting) (old.dialogue, old.desk) new.lines line (Some []) (Some answer) (outcome is_whole) (new.dialogue, new.desk)

-- the text of the desk's journal was written, whole or in part, and nothing else changed
pub record WritesJournal (is_whole : Bool) (old : OpenDesk) (answer : List ℕ) (new : OpenDesk) : Type 0 where
  pub whole : OnOk (outcome is_whole) (Appends (Some []) (Some answer) (journal_text old.desk.scene.mode old.desk.journal))
  pub front : OnErr (outcome is_whole) (AppendsFront (Some []) (Some answer) (journal_text old.desk.scene.mode old.desk.journal))
  pub same : new ≡ old

-- a call at what came of opening a desk: false and no change where none is open
abbrev pub AtOpening : (OpenDesk → List ℕ → OpenDesk → Type 0) → Bool → Opening → State → State → Type 0
AtOpening Does told (Open desk) old new = (after : OpenDesk) × (new.opening ≡ Open after) × Does desk new.answer.items after
AtOpening Does told (Refused fault) old new = (told ≡ false) × (new ≡ old)

-- a call that answers at an open desk
abbrev pub AtState : (Bool → OpenDesk → List ℕ → OpenDesk → Type 0) → Bool → State → State → Type 0
AtState Does told old new = AtOpening (Does told) told old.opening old new

-- a call at a handle: false and no change where it is closed
abbrev pub AtHandle : (Bool → State → State → Type 0) → Bool → Option State → Option State → Type 0
AtHandle Does told None new = (told ≡ false) × (new ≡ None)
AtHandle Does told (Some old) None = ⊥
AtHandle Does told (Some old) (Some new) = Does told old new

-- the front of the answer that there is room for is in the room, the rest of which stays; the length is that of the whole
pub record HasCopied (answer room0 room1 : List ℕ) (length1 : ℕ) : Type 0 where
  pub is : room1 ≡ take (length room0) answer ++ drop (length answer) room0
  pub whole : length1 ≡ length answer

-- so it is where there is an answer, and else nothing changes
abbrev pub IsCopied : Bool → Option State → (room0 room1 : List ℕ) → (length0 length1 : ℕ) → Type 0
IsCopied told None room0 room1 length0 length1 = (told ≡ false) × (room1 ≡ room0) × (length1 ≡ length0)
IsCopied told (Some state) room0 room1 length0 length1 = (told ≡ true) × HasCopied state.answer.items room0 room1 length1
