-- A log's pass beside those of planners: it is split off, watches, and is joined.
use Rattle.std.specs.Prelude.{All, IfSome}
use Rattle.std.proofs.Common.{◌≡◌, ◌≢◌, ℕ, ◌+◌, ◌<◌, List, [], ◌∷◌, length, get_or, Option, Some, None, Result, arith, refl, sym, ap, subst, ◌∙◌, length-append}
use Rattle.std.proofs.lemmas.List.{append-nil, get_or_append_left}
use Rattle.std.proofs.Math.Seq.{get_or-append_seam}
use Rattle.desk_commits.specs.Entries.{Entry}
use Rattle.desk_commits.specs.State.{DeskState}
use Rattle.desk_shared.proofs.Beginnings.{none_own}
use Rattle.desk_shared.specs.Calls.{IsJoinOf, IsSplit}
use Rattle.desk_shared.specs.Passes.{PassState, Sharing, AreOfPlanners, ExtendsSeen, HasJust, own_of}
use Rattle.shared_runs.proofs.Joining.{seated_on}
use Rattle.shared_runs.proofs.ScriptSessions.{IsPrefix-trans}
use Rattle.shared_runs.specs.Hosts.{HasHosted, Inputs, IsSeated}
use Rattle.shared_runs.specs.Logged.{HasWatched, IsJoinedUnused, passes_of}
use Rattle.solver_check.specs.declared.seats.SeatFault.{SeatFault}

-- a number, and its entries
abbrev Numbered : Type 0
Numbered = ℕ × List Entry

-- watching goes on
pub watched_on : (old mid new : PassState) → HasWatched old mid → HasWatched mid new → HasWatched old new
watched_on old mid new first then =
    record {
      start = then.start ∙ first.start;
      planner = then.planner ∙ first.planner;
      seen = IsPrefix-trans old.made mid.made new.made first.seen then.seen;
      none = subst (λ (n : ℕ). own_of n new.made ≡ own_of n mid.made) first.planner then.none ∙ first.none;
    }

pub watched_none : (pass : PassState) → HasWatched pass pass
watched_none pass = record { start = refl; planner = refl; seen = ([], append-nil pass.made); none = refl }

module _ (shared : Sharing) (inputs : Inputs) where
  -- the log's pass is joined into the operator's
  pub logged_hosted : (old split mid new given other : PassState) (planner : ℕ) (operator : Result ℕ SeatFault) → old.planner ≡ 0 → IsSplit old split given → HasHosted shared inputs split mid planner [] operator → IsJoinOf mid other new → HasHosted shared inputs old new planner [] operator
  logged_hosted old split mid new given other planner operator zeroth is hosted joined =
      let start : split.start ≡ old.start = λ i. (is.given i).start in
      let first : split.planner ≡ old.planner = λ i. (is.given i).planner in
      let on : mid.planner ≡ 0 = hosted.planner ∙ first ∙ zeroth in
      let own : own_of 0 new.made ≡ own_of 0 mid.made = subst (λ (n : ℕ). own_of n new.made ≡ own_of n mid.made) on joined.own in
      record {
        start = joined.start ∙ hosted.start ∙ start;
        planners = joined.shared ∙ hosted.planners ∙ (λ i. (is.given i).planners);
        planner = joined.planner ∙ hosted.planner ∙ first;
        kept = joined.kept;
        joined = λ number low high. absurd (omega (arith, low, high));
        served = subst (λ (s : DeskState). IsSeated shared inputs s new.made 0 operator) start (seated_on shared inputs split.start mid.made new.made 0 operator joined.seen own hosted.served);
        seated = tt;
      }

-- the number of a pass that was joined, and committed nothing
pub joined_unused : (mid other new : PassState) (number : ℕ) → other.planner ≡ number → own_of other.planner other.made ≡ [] → IsJoinOf mid other new → IsJoinedUnused number new.past
joined_unused mid other new number is none joined =
    subst (IsJoinedUnused number) (sym joined.past)
    (length mid.past, (other.planner, own_of other.planner other.made), omega (arith, length-append mid.past ((other.planner, own_of other.planner other.made) ∷ other.past)), get_or-append_seam mid.past _ other.past _, (is, none))

-- and so it is where more passes are joined
pub still_unused : (mid other new : PassState) (number : ℕ) → IsJoinOf mid other new → IsJoinedUnused number mid.past → IsJoinedUnused number new.past
still_unused mid other new number joined (at, numbered, inside, there, is) =
    subst (IsJoinedUnused number) (sym joined.past)
    (at, numbered, omega (arith, inside, length-append mid.past ((other.planner, own_of other.planner other.made) ∷ other.past)), get_or_append_left mid.past _ numbered at inside ∙ there, is)

-- the entries have none of that number
pub none_of : (number : ℕ) (made : List Entry) (past : List Numbered) → All (HasJust made) past → IsJoinedUnused number past → own_of number made ≡ []
none_of number made past kept (at, numbered, inside, there, is) =
    let just : own_of numbered.0 made ≡ numbered.1 = subst (HasJust made) there (kept at numbered inside) in
    subst (λ (n : ℕ). own_of n made ≡ []) is.0 (just ∙ is.1)

-- so they are of the numbers below
pub of_fewer : (number : ℕ) (made : List Entry) → own_of number made ≡ [] → All (λ (entry : Entry). entry.planner < number + 1) made → All (λ (entry : Entry). entry.planner < number) made
of_fewer number made none all at entry inside =
    let low = all at entry inside in
    let other : (get_or made at entry).planner ≢ number = none_own number made none at entry inside in
    omega (arith, low, other)

-- one more planner, beside the passes of a log
pub more_by : (fewer many passes : ℕ) → fewer + 1 ≡ many → (fewer + passes) + 1 ≡ many + passes
more_by fewer many passes more = omega (arith, more)

-- no planner is hosted
pub nobody_hosted : (shared : Sharing) (inputs : Inputs) (old new : PassState) (planner : ℕ) (outcomes : List (Result ℕ SeatFault)) (operator : Result ℕ SeatFault) → length outcomes ≡ 0 → HasHosted shared inputs old new planner [] operator → HasHosted shared inputs old new planner outcomes operator
nobody_hosted shared inputs old new planner [] operator none is = is
nobody_hosted shared inputs old new planner (outcome ∷ later) operator none is = absurd (omega (arith, none))

-- where there is a log, its number stays unused
pub still_unused_if : {A : Type 0} (log : Option A) (mid other new : PassState) (number same : ℕ) → number ≡ same → IsJoinOf mid other new → IfSome log (λ _. IsJoinedUnused number mid.past) → IfSome log (λ _. IsJoinedUnused same new.past)
still_unused_if None mid other new number same is joined unused = unused
still_unused_if (Some log) mid other new number same is joined unused = subst (λ (n : ℕ). IsJoinedUnused n new.past) is (still_unused mid other new number joined unused)

-- the entries are of the operator and the planners alone, also where a log has a pass
pub of_planners : {A : Type 0} (log : Option A) (planners many : ℕ) (last : PassState) (found : List Entry) → many ≡ planners + 1 + passes_of log → last.planners ≡ many → ExtendsSeen last found → IfSome log (λ _. IsJoinedUnused (planners + 1) last.past) → AreOfPlanners (planners + 1) found
of_planners None planners many last found is shared on unused =
    let same : last.planners ≡ planners + 1 = omega (arith, shared, is) in
    subst (λ (n : ℕ). AreOfPlanners n found) same on.numbered
of_planners (Some log) planners many last found is shared on unused =
    let same : last.planners ≡ planners + 1 + 1 = omega (arith, shared, is) in
    of_fewer (planners + 1) found (none_of (planners + 1) found last.past on.past unused) (subst (λ (n : ℕ). AreOfPlanners n found) same on.numbered)
