-- The planner numbers that a pass keeps while it gives them away, one for each script.
use Rattle.std.proofs.Common.{◌≡◌, ℕ, zero, suc, ◌+◌, ◌<◌, ◌≤◌, Bool, false, true≢false, List, [], ◌∷◌, refl, sym, ap, subst, ◌∙◌, arith, slice_set, get_or, set, get_or-set_other}
use mathlib.Core.Logic.{dite}
use native.Mathlib.Decide.{ℕ_discrete}
use Rattle.desk_commits.specs.State.{DeskState}
use Rattle.desk_shared.specs.Passes.{PassState, Held, Sharing, Owns}
use Rattle.desk_shared.specs.Calls.{IsLeast, IsSplit, KeepsNone}
use Rattle.shared_runs.specs.Drills.{KeepsFrom, MaySplit}

-- a pass that keeps a number is split
keeps_some : (first planners : ℕ) (pass : PassState) → KeepsFrom first planners pass.unused → first < planners → KeepsNone pass → ⊥
keeps_some first planners pass kept some none = true≢false (sym ((kept first).1 (omega arith) some) ∙ none first)

-- the least number is the first one
least_is_first : (first planners : ℕ) (pass : PassState) (number : ℕ) → KeepsFrom first planners pass.unused → first < planners → IsLeast pass number → number ≡ first
least_is_first first planners pass number kept some least =
    let from : first ≤ number = ((kept number).0 least.kept).0 in
    dite (ℕ_discrete number first) (λ same. same)
    (λ other. let below : first < number = omega arith in absurd (true≢false (sym ((kept first).1 (omega arith) some) ∙ least.least first below)))

set_false : (xs : List Bool) (i : ℕ) → get_or (set xs i false) i false ≡ false
set_false [] i = refl
set_false (x ∷ xs) zero = refl
set_false (x ∷ xs) (suc i) = set_false xs i

-- the first number is given away
pub later_kept : (first planners : ℕ) (unused : List Bool) → KeepsFrom first planners unused → KeepsFrom (first + 1) planners (slice_set unused first false)
later_kept first planners unused kept number =
    dite (ℕ_discrete number first)
    (λ is. ((λ e. absurd (true≢false (sym e ∙ (rw is (set_false unused first))))), λ low high. absurd (omega arith)))
    (λ other.
    let same = get_or-set_other unused first number false false other in
    ((λ e. let range = (kept number).0 (sym same ∙ e) in let low = range.0 in (omega arith, range.1)), λ low high. same ∙ (kept number).1 (omega arith) high))

-- what is kept after a split
split_keeps : (first planners fewer : ℕ) (old new other : PassState) → planners ≡ fewer → first < planners → KeepsFrom first planners old.unused → IsSplit old new other → KeepsFrom (first + 1) fewer new.unused
split_keeps first planners fewer old new other same some kept split =
    let unused : new.unused ≡ slice_set old.unused first false = (λ i. (split.given i).unused) ∙ ap (λ (n : ℕ). slice_set old.unused n false) (least_is_first first planners old other.planner kept some split.number) in
    subst (λ (n : ℕ). KeepsFrom (first + 1) n new.unused) same (subst (λ (u : List Bool). KeepsFrom (first + 1) planners u) (sym unused) (later_kept first planners old.unused kept))

-- a planner's pass, as it was given away: it has seen nothing since the desk was shared
pub record IsGiven (start : DeskState) (planner : ℕ) (pass : PassState) : Type 0 where
  pub begins : pass.start ≡ start
  pub nothing_seen : pass.made ≡ []
  pub number : pass.planner ≡ planner

-- a pass that may give numbers to one planner and to fewer behind that one
module _ (desk : Sharing) (pass : Held) (number many fewer : ℕ) (may : MaySplit desk pass number many) (more : fewer + 1 ≡ many) where
  some : number + 1 < number + many + 1
  some = omega (arith, more)

  pub may_give : KeepsNone pass.known → ⊥
  may_give = keeps_some (number + 1) (number + many + 1) pass.known may.kept some

  -- the number that it gives
  pub next_number : (given : ℕ) → IsLeast pass.known given → given ≡ number + 1
  next_number given = least_is_first (number + 1) (number + many + 1) pass.known given may.kept some

  -- what it may give then
  pub may_still_split : (new : Held) (other : PassState) → IsSplit pass.known new.known other → Owns desk new → MaySplit desk new (number + 1) fewer
  may_still_split new other split owned =
      record {
        owned = owned;
        few = omega (arith, more, may.few);
        kept = split_keeps (number + 1) (number + many + 1) (number + 1 + fewer + 1) pass.known new.known other (omega (arith, more)) some may.kept split;
        nothing_seen = (λ i. (split.given i).made) ∙ may.nothing_seen;
        none_joined = (λ i. (split.given i).past) ∙ may.none_joined;
      }

  -- the pass that a thread was promised
  pub is_given : (new : PassState) (other promised : Held) → IsSplit pass.known new other.known → promised ≡ other → IsGiven pass.known.start (number + 1) promised.known
  is_given new other promised split same =
      record {
        begins = (λ i. (same i).known.start) ∙ split.start;
        nothing_seen = (λ i. (same i).known.made) ∙ split.made ∙ may.nothing_seen;
        number = (λ i. (same i).known.planner) ∙ next_number other.known.planner split.number;
      }
