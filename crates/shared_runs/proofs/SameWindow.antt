-- A window stays on its desk, with its planner, through a whole session.
use Rattle.std.proofs.Common.{◌≡◌, ℕ, List, Option, Result, refl, ◌∙◌}
use Rattle.session_protocol.specs.Answer.{answering_in}
use Rattle.session_protocol.specs.Session.{Serves}
use Rattle.session_protocol.specs.declared.bounds.Bounds.{Bounds}
use Rattle.session_protocol.specs.declared.bounds.ServeFault.{ServeFault}
use Rattle.session_lines.specs.declared.versions.LinesVersion.{LinesVersion}
use Rattle.session_protocol.specs.declared.drafts.Session.{Session}
use Rattle.session_protocol.proofs.Staying.{IsKept, serves}
use Rattle.desk_shared.specs.Windows.{WindowState, window_counting}

-- a window that is still on its desk, for its planner, of the same sharing
pub record IsSameWindow (old new : WindowState) : Type 0 where
  pub desk : new.desk ≡ old.desk
  pub start : new.pass.start ≡ old.pass.start
  pub planner : new.pass.planner ≡ old.pass.planner

window_kept : IsKept window_counting IsSameWindow
window_kept = record {
  same = λ s. record { desk = refl; start = refl; planner = refl };
  joined = λ r s t first second. record { desk = second.desk ∙ first.desk; start = second.start ∙ first.start; planner = second.planner ∙ first.planner };
  versions = λ old new version told. record { desk = told.1; start = λ i. (told.0.new_floor i).start; planner = λ i. (told.0.new_floor i).planner };
  commits = λ old new commit result made. record { desk = made.2; start = made.0.same.start; planner = made.0.same.planner };
  reads = λ old new result read. record { desk = read.1; start = read.0.same.start; planner = read.0.same.planner };
  tells = λ old new agent cell result told. record { desk = told.1; start = told.0.same.start; planner = told.0.same.planner };
  asks = λ X old new IsAnswer answer told. record { desk = told.1; start = told.0.same.start; planner = told.0.same.planner };
}

-- a session over a window leaves it on its desk
pub window_stays : (version : LinesVersion) (bounds : Bounds) (left0 left1 held0 held1 : Option (List ℕ)) (session last : Session) (old new : WindowState) (result : Result ℕ ServeFault) → Serves (answering_in version window_counting) bounds left0 left1 held0 held1 (session, old) (last, new) result → IsSameWindow old new
window_stays version bounds left0 left1 held0 held1 session last old new result served = serves version window_counting IsSameWindow window_kept bounds left0 left1 held0 held1 (session, old) (last, new) result served
