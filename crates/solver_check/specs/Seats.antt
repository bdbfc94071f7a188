-- A planner's seat: what is heard there, and how that ends (this project's choice).
use Rattle.std.specs.Prelude.{◌≡◌, ℕ, List, Option, Some, None, Result, Ok, Err}
use Rattle.session_protocol.specs.Answer.{answering_in}
use Rattle.desk_commits.specs.Counting.{Counting}
use Rattle.session_protocol.specs.Keeping.{StopsUnkept}
use Rattle.session_protocol.specs.Session.{Serves}
use Rattle.session_protocol.specs.declared.bounds.ServeFault.{ServeFault}
use Rattle.session_protocol.specs.declared.bounds.ServeFault.TheVariants.{ReadFailed}
use Rattle.session_protocol.specs.declared.drafts.Session.{Session}
use Rattle.session_protocol.specs.declared.drafts.Session.TheVariants.{Idle}
use Rattle.solver_check.specs.Bounds.{seat_bounds}
use Rattle.solver_check.specs.Inputs.{Input}
use Rattle.solver_check.specs.declared.seats.SeatFault.{SeatFault}
use Rattle.solver_check.specs.declared.seats.SeatFault.TheVariants as seat

-- the bytes that come are those of the input, where it is told
abbrev pub IsOf : Option (List ℕ) → Option (List ℕ) → Type 0
IsOf None left = Unit {0}
IsOf (Some bytes) left = left ≡ Some bytes

-- the planner's input was heard and answered as a session over the counter, from the one value to the other, which ended so
pub record IsHeard {S : Type 0} (counting : Counting S) (input : Input) (old new : S) (ended : Result ℕ ServeFault) : Type 0 where
  pub left0 : Option (List ℕ)
  pub left1 : Option (List ℕ)
  pub held0 : Option (List ℕ)
  pub held1 : Option (List ℕ)
  pub of : IsOf input.bytes left0
  pub last : Session
  pub session : Serves (answering_in input.lines counting) seat_bounds left0 left1 held0 held1 (Idle, old) (last, new) ended

-- what a line did wasn't kept: of its answer nothing went out, and those of all lines before it did
abbrev pub StopsKeeping : {S : Type 0} → Counting S → Input → S → S → (S → Type 0) → Type 0
StopsKeeping counting input old new IsKept =
    (held0 held1 : Option (List ℕ)) × (last : Session) × StopsUnkept (answering_in input.lines counting) held0 held1 (Idle, old) (last, new) (λ told. IsKept told.1)

-- what came of a seat: the input was heard to its end; a line was too long, of which no more was read; the session ended before, at its fault; its last answers weren't sent; or nothing was heard
abbrev pub Sits : {S : Type 0} → Counting S → Input → S → S → Result ℕ SeatFault → Type 0
Sits counting input old new (Ok lines) = IsHeard counting input old new (Ok lines)
Sits counting input old new (Err seat.LineTooLong) = IsHeard counting input old new (Err ReadFailed)
Sits counting input old new (Err (seat.Session why reason)) = IsHeard counting input old new (Err why)
Sits counting input old new (Err (seat.Unsent reason)) = (ended : Result ℕ ServeFault) × IsHeard counting input old new ended
Sits counting input old new (Err other) = new ≡ old
