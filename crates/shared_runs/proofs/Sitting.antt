-- A seat over a window leaves it on its shared desk, for its planner.
use Rattle.std.proofs.Common.{◌≡◌, ℕ, Result, Ok, Err, refl, sym, ap, subst, ◌∙◌}
use Rattle.session_protocol.specs.declared.bounds.ServeFault.{ServeFault}
use Rattle.session_protocol.specs.declared.bounds.ServeFault.TheVariants.{ReadFailed}
use Rattle.session_protocol.specs.declared.drafts.Session.TheVariants.{Idle}
use Rattle.desk_shared.specs.Passes.{Held, Sharing}
use Rattle.desk_shared.specs.Windows.{WindowState, window_on, window_counting}
use Rattle.session_protocol.proofs.Staying.{IsKept, serves}
use Rattle.solver_check.specs.Bounds.{seat_bounds}
use Rattle.shared_runs.specs.Hosts.{IsEnded}
use Rattle.solver_check.specs.Inputs.{Input}
use Rattle.solver_check.specs.Seats.{IsHeard, Sits}
use Rattle.solver_check.specs.declared.seats.SeatFault.{SeatFault}
use Rattle.solver_check.specs.declared.seats.SeatFault.TheVariants as seat

-- a window that is still on its desk, for its planner, with what was joined into its pass
pub record IsSameSeat (old new : WindowState) : Type 0 where
  pub desk : new.desk ≡ old.desk
  pub start : new.pass.start ≡ old.pass.start
  pub planners : new.pass.planners ≡ old.pass.planners
  pub planner : new.pass.planner ≡ old.pass.planner
  pub past : new.pass.past ≡ old.pass.past

seat_kept : IsKept window_counting IsSameSeat
seat_kept = record {
  same = λ s. record { desk = refl; start = refl; planners = refl; planner = refl; past = refl };
  joined = λ r s t first second.
      record { desk = second.desk ∙ first.desk; start = second.start ∙ first.start; planners = second.planners ∙ first.planners; planner = second.planner ∙ first.planner; past = second.past ∙ first.past };
  versions = λ old new version told.
      record { desk = told.1; start = λ i. (told.0.new_floor i).start; planners = λ i. (told.0.new_floor i).planners; planner = λ i. (told.0.new_floor i).planner; past = λ i. (told.0.new_floor i).past };
  commits = λ old new commit result made. record { desk = made.2; start = made.0.same.start; planners = made.0.same.shared; planner = made.0.same.planner; past = made.0.same.past };
  reads = λ old new result read. record { desk = read.1; start = read.0.same.start; planners = read.0.same.shared; planner = read.0.same.planner; past = read.0.same.past };
  tells = λ old new agent cell result told. record { desk = told.1; start = told.0.same.start; planners = told.0.same.shared; planner = told.0.same.planner; past = told.0.same.past };
  asks = λ X old new IsAnswer answer told. record { desk = told.1; start = told.0.same.start; planners = told.0.same.shared; planner = told.0.same.planner; past = told.0.same.past };
}

stays : (old new : WindowState) → new ≡ old → IsSameSeat old new
stays old new same = subst (IsSameSeat old) (sym same) (record { desk = refl; start = refl; planners = refl; planner = refl; past = refl })

heard : (input : Input) (old new : WindowState) (ended : Result ℕ ServeFault) → IsHeard window_counting input old new ended → IsSameSeat old new
heard input old new ended is = serves input.lines window_counting IsSameSeat seat_kept seat_bounds is.left0 is.left1 is.held0 is.held1 (Idle, old) (is.last, new) ended is.session

pub sat_same : (input : Input) (old new : WindowState) (outcome : Result ℕ SeatFault) → Sits window_counting input old new outcome → IsSameSeat old new
sat_same input old new (Ok lines) is = heard input old new (Ok lines) is
sat_same input old new (Err seat.LineTooLong) is = heard input old new (Err ReadFailed) is
sat_same input old new (Err (seat.Session why reason)) is = heard input old new (Err why) is
sat_same input old new (Err (seat.Unsent reason)) is = heard input old new is.0 is.1
sat_same input old new (Err seat.NoThread) is = stays old new is
sat_same input old new (Err seat.NeverCame) is = stays old new is
sat_same input old new (Err (seat.NoInput reason)) is = stays old new is
sat_same input old new (Err (seat.NoOutput reason)) is = stays old new is
sat_same input old new (Err seat.OutOfMemory) is = stays old new is

-- what came of a seat over a window, by the pass that is taken out of it
pub ended : (shared : Sharing) (input : Input) (pass after : Held) (old new : WindowState) (outcome : Result ℕ SeatFault) → old ≡ window_on shared pass → after.table_id ≡ new.desk.table_id → after.known ≡ new.pass → Sits window_counting input old new outcome → IsEnded shared input pass after outcome
ended shared input pass after old new outcome begun own ends is =
    let on : new.desk ≡ shared = (sat_same input old new outcome is).desk ∙ ap (λ (w : WindowState). w.desk) begun in
    let then : new ≡ window_on shared after = λ i. record { desk = on i; pass = sym ends i } in
    record {
      owned = own ∙ ap (λ (d : Sharing). d.table_id) on;
      sat =
          subst (λ (w : WindowState). Sits window_counting input (window_on shared pass) w outcome) then
          (subst (λ (w : WindowState). Sits window_counting input w new outcome) begun is);
    }

-- what a thread gives back, by what was promised of it
pub as_promised : (shared promised : Sharing) (input heard : Input) (pass before : Held) (result given : Held × Result ℕ SeatFault) → promised ≡ shared → heard ≡ input → before ≡ pass → result ≡ given → IsEnded promised heard before given.0 given.1 → IsEnded shared input pass result.0 result.1
as_promised shared promised input heard pass before result given on same from is kept =
    subst (λ (r : Held × Result ℕ SeatFault). IsEnded shared input pass r.0 r.1) (sym is)
    (subst (λ (p : Held). IsEnded shared input p given.0 given.1) from
    (subst (λ (h : Input). IsEnded shared h before given.0 given.1) same
    (subst (λ (d : Sharing). IsEnded d heard before given.0 given.1) on kept)))
