-- The operator's pass, while the passes of the planners are joined into it, and what the desk has then.
use Rattle.std.specs.Prelude.{IfOk}
use Rattle.std.proofs.Common.{◌≡◌, ℕ, ◌+◌, ◌<◌, ◌≤◌, List, [], ◌∷◌, length, Result, arith, refl, sym, ap, subst, ◌∙◌}
use Rattle.std.proofs.lemmas.List.{append-nil}
use Rattle.std.proofs.lemmas.List.Elements.{All-nil, All-same}
use mathlib.Core.List.{IsPrefix}
use Rattle.desk_commits.specs.Entries.{Entry}
use Rattle.desk_commits.specs.Replays.{IsLegal}
use Rattle.desk_commits.specs.State.{DeskState, after}
use Rattle.desk_shared.specs.Calls.{IsDeskAtClose, IsFirst, IsJoinOf, IsSplit}
use Rattle.desk_shared.specs.Passes.{PassState, Held, Sharing, AreOfPlanners, ExtendsSeen, HasJust, own_of, version_at}
use Rattle.shared_runs.proofs.Gathering.{own_at, own_kept, one_more_joined}
use Rattle.desk_shared.specs.Windows.{window_on}
use Rattle.shared_runs.specs.Hosts.{AreSeated, HasHosted, Hosts, Inputs, IsCompared, IsEnded, IsSeated}
use Rattle.shared_runs.specs.declared.hosts.hosting.HostEnd.{HostEnd}
use Rattle.solver_check.specs.declared.seats.SeatFault.{SeatFault}
use Rattle.shared_runs.proofs.ScriptSessions.{IsPrefix-trans}
use Rattle.shared_runs.proofs.Sitting.{sat_same}

module _ (shared : Sharing) (inputs : Inputs) where
  -- the operator's seat, with no planner beside
  pub none_hosted : (old new : Held) (planner : ℕ) (outcomes : List (Result ℕ SeatFault)) (operator : Result ℕ SeatFault) → length outcomes ≡ 0 → old.known.made ≡ [] → old.known.past ≡ [] → old.known.planner ≡ 0 → IsEnded shared (inputs 0) old new operator → HasHosted shared inputs old.known new.known planner outcomes operator
  none_hosted old new planner [] operator few nothing none number is =
      let same = sat_same (inputs 0) (window_on shared old) (window_on shared new) operator is.sat in
      record {
        start = same.start;
        planners = same.planners;
        planner = same.planner;
        kept = All-same (HasJust new.known.made) new.known.past [] (same.past ∙ none) (All-nil (HasJust new.known.made));
        joined = λ other low high. absurd (omega (arith, low, high));
        served = record { old = old; new = new; begins = refl; nothing_seen = nothing; number = number; sat = is.sat; seen = ([], append-nil new.known.made); own = refl };
        seated = tt;
      }
  none_hosted old new planner (outcome ∷ later) operator few nothing none number is = absurd (omega (arith, few))

  -- a seat's outcome holds of a longer journal, where that has no more entries of the planner
  pub seated_on : (start : DeskState) (entries longer : List Entry) (planner : ℕ) (outcome : Result ℕ SeatFault) → IsPrefix entries longer → own_of planner longer ≡ own_of planner entries → IsSeated shared inputs start entries planner outcome → IsSeated shared inputs start longer planner outcome
  seated_on start entries longer planner outcome more same is =
      record { old = is.old; new = is.new; begins = is.begins; nothing_seen = is.nothing_seen; number = is.number; sat = is.sat; seen = IsPrefix-trans is.new.known.made entries longer is.seen more; own = same ∙ is.own }

  pub all_seated_on : (start : DeskState) (entries longer : List Entry) → IsPrefix entries longer → (planner : ℕ) (outcomes : List (Result ℕ SeatFault)) → ((number : ℕ) → planner ≤ number → number < planner + length outcomes → own_of number longer ≡ own_of number entries) → AreSeated shared inputs start entries planner outcomes → AreSeated shared inputs start longer planner outcomes
  all_seated_on start entries longer more planner [] same all = all
  all_seated_on start entries longer more planner (outcome ∷ later) same all = (
    seated_on start entries longer planner outcome more (same planner (omega arith) (omega arith)) all.0,
    all_seated_on start entries longer more (planner + 1) later (λ number low high. same number (omega arith) (omega arith)) all.1,
  )

  -- a planner's pass, split off before the others, is joined after them
  pub one_more_hosted : (old split mid new : PassState) (pass other : Held) (planner : ℕ) (outcome operator : Result ℕ SeatFault) (later : List (Result ℕ SeatFault)) → old.made ≡ [] → old.planner ≡ 0 → pass.known.planner ≡ planner → IsSplit old split pass.known → HasHosted shared inputs split mid (planner + 1) later operator → IsEnded shared (inputs planner) pass other outcome → IsJoinOf mid other.known new → HasHosted shared inputs old new planner (outcome ∷ later) operator
  one_more_hosted old split mid new pass other planner outcome operator later nothing zeroth number is hosted ends joined =
      let start : split.start ≡ old.start = λ i. (is.given i).start in
      let first : split.planner ≡ old.planner = λ i. (is.given i).planner in
      let numbered : other.known.planner ≡ planner = (sat_same (inputs planner) (window_on shared pass) (window_on shared other) outcome ends.sat).planner ∙ number in
      let on : mid.planner ≡ 0 = hosted.planner ∙ first ∙ zeroth in
      let own : own_of 0 new.made ≡ own_of 0 mid.made = subst (λ (n : ℕ). own_of n new.made ≡ own_of n mid.made) on joined.own in
      let here : IsSeated shared inputs old.start new.made planner outcome = record {
        old = pass;
        new = other;
        begins = is.start;
        nothing_seen = is.made ∙ nothing;
        number = number;
        sat = ends.sat;
        seen = joined.others;
        own = subst (λ (n : ℕ). own_of n new.made ≡ own_of n other.known.made) numbered joined.own_of_other;
      } in
      let there : AreSeated shared inputs split.start new.made (planner + 1) later =
      all_seated_on split.start mid.made new.made joined.seen (planner + 1) later (λ n low high. own_kept mid other.known new joined hosted.kept n (hosted.joined n low high)) hosted.seated in
      record {
        start = joined.start ∙ hosted.start ∙ start;
        planners = joined.shared ∙ hosted.planners ∙ (λ i. (is.given i).planners);
        planner = joined.planner ∙ hosted.planner ∙ first;
        kept = joined.kept;
        joined = one_more_joined mid other.known new joined planner (length later) numbered hosted.joined;
        served = subst (λ (s : DeskState). IsSeated shared inputs s new.made 0 operator) start (seated_on split.start mid.made new.made 0 operator joined.seen own hosted.served);
        seated = (here, subst (λ (s : DeskState). AreSeated shared inputs s new.made (planner + 1) later) start there);
      }

  -- the desk that was closed, and what is told of it
  pub hosts : (start : DeskState) (planners many : ℕ) (first last : PassState) (desk : DeskState) (end : HostEnd) → ((found : List Entry) → ExtendsSeen last found → AreOfPlanners (planners + 1) found) → length end.planners.items ≡ planners → IsFirst start many first → HasHosted shared inputs first last 1 end.planners.items end.operator → IsDeskAtClose last desk → end.desk ≡ desk → IfOk end.same (IsCompared desk) → Hosts inputs start planners end
  hosts start planners many first last desk end numbered all_told is hosted closed same compared =
      let began : last.start ≡ start = hosted.start ∙ is.start in
      let zeroth : last.planner ≡ 0 = hosted.planner ∙ is.planner in
      let on = closed.goes_on in
      let own : own_of 0 closed.found ≡ own_of 0 last.made = subst (λ (n : ℕ). own_of n closed.found ≡ own_of n last.made) zeroth on.own in
      let served : IsSeated shared inputs first.start closed.found 0 end.operator = seated_on first.start last.made closed.found 0 end.operator on.seen own hosted.served in
      let seated : AreSeated shared inputs first.start closed.found 1 end.planners.items =
      all_seated_on first.start last.made closed.found on.seen 1 end.planners.items (λ n low high. own_at last.made closed.found last.past hosted.kept on.past n (hosted.joined n low high)) hosted.seated in
      record {
        shared = shared;
        entries = closed.found;
        legal = subst (λ (s : DeskState). IsLegal s closed.found) began on.legal;
        within = subst (λ (s : DeskState). version_at s closed.found ≤ s.limit) began on.within;
        numbered = numbered closed.found on;
        operator = subst (λ (s : DeskState). IsSeated shared inputs s closed.found 0 end.operator) is.start served;
        all_told = all_told;
        seated = subst (λ (s : DeskState). AreSeated shared inputs s closed.found 1 end.planners.items) is.start seated;
        closed = same ∙ closed.desk_is ∙ ap (λ (s : DeskState). after s closed.found) began;
        compared = subst (λ (d : DeskState). IfOk end.same (IsCompared d)) (sym same) compared;
      }
