-- What a window on a shared desk answers: the shared desk's answers to its pass (this project's choice).
use Rattle.std.specs.Prelude.{◌≡◌, IfOk}
use Rattle.desk_commits.specs.Questions.{ShowsReport, AnswersDistance}
use Rattle.desk_shared.specs.Passes.{PassState, Held, Sharing}
use Rattle.desk_shared.specs.Calls.{CommitsBy, IsLastSeen, AsksBy, IsFront}
use Rattle.desk_commits.specs.Counting.{Counting}

-- a window: which shared desk it is on, and what its pass knows
pub record WindowState : Type 0 where
  pub desk : Sharing
  pub pass : PassState

-- the window on that desk through that pass
abbrev pub window_on : Sharing → Held → WindowState
window_on desk pass = record { desk = desk; pass = pass.known }

-- the window is on the same desk as before
abbrev pub IsOnSame : WindowState → WindowState → Type 0
IsOnSame old new = new.desk ≡ old.desk

-- a window counts for its pass's planner, its version is the front, and each other call is one call of the shared desk through the pass; no call leads to another desk
abbrev pub window_counting : Counting WindowState
window_counting = record {
  planner = λ window. window.pass.planner;
  versions = λ old version new. IsFront old.pass version new.pass × IsOnSame old new;
  commits = λ old commit result new. CommitsBy old.pass commit result new.pass × IfOk result (IsLastSeen new.pass commit) × IsOnSame old new;
  reads = λ old result new. AsksBy old.pass (λ desk. IfOk result (ShowsReport desk)) new.pass × IsOnSame old new;
  tells = λ old agent cell result new. AsksBy old.pass (λ desk. AnswersDistance desk.scene agent cell result) new.pass × IsOnSame old new;
  asks = λ X old IsAnswer answer new. AsksBy old.pass (λ desk. IsAnswer desk answer) new.pass × IsOnSame old new;
}
