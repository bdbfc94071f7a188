-- What the first pass of a drill has seen, while the passes of the scripts are joined into it.
use Rattle.std.specs.Prelude.{All, Any}
use Rattle.std.proofs.Common.{◌≡◌, ℕ, suc, ◌+◌, ◌<◌, List, [], ◌∷◌, ◌++◌, length, arith, sym, ap, subst, ◌∙◌, length-append}
use Rattle.std.proofs.lemmas.List.{get_or_append_left}
use Rattle.std.proofs.lemmas.List.Elements.{All-nil, All-same}
use Rattle.std.proofs.Math.Seq.{get_or-append_seam}
use mathlib.Core.Logic.{dite}
use native.Mathlib.Decide.{ℕ_discrete}
use Rattle.desk_commits.specs.Entries.{Entry}
use Rattle.desk_shared.specs.Passes.{PassState, own_of, HasJust}
use Rattle.desk_shared.specs.Calls.{IsSplit, IsJoinOf}
use Rattle.shared_runs.specs.Drills.{AreJoined, HasGathered}

-- a number, and its entries
abbrev Numbered : Type 0
Numbered = ℕ × List Entry

-- nothing was seen, and nothing joined
pub none_gathered : (old new : PassState) → old.made ≡ [] → old.past ≡ [] → new.start ≡ old.start → new.planners ≡ old.planners → new.planner ≡ old.planner → new.made ≡ old.made → new.past ≡ old.past → HasGathered old new
none_gathered old new nothing none start planners planner made past =
    let unseen : new.made ≡ [] = made ∙ nothing in
    let alone : new.past ≡ [] = past ∙ none in
    record {
      start = start;
      planners = planners;
      planner = planner;
      none_own = ap (own_of new.planner) unseen;
      numbered = All-same (λ (entry : Entry). entry.planner < new.planners) new.made [] unseen (All-nil (λ (entry : Entry). entry.planner < new.planners));
      kept = All-same (HasJust new.made) new.past [] alone (All-nil (HasJust new.made));
    }

-- a pass was split off
pub split_gathered : (old new other : PassState) → old.made ≡ [] → old.past ≡ [] → IsSplit old new other → HasGathered old new
split_gathered old new other nothing none split =
    none_gathered old new nothing none (λ i. (split.given i).start) (λ i. (split.given i).planners) (λ i. (split.given i).planner) (λ i. (split.given i).made) (λ i. (split.given i).past)

-- a pass was joined after others
pub join_gathered : (old mid on other new : PassState) → HasGathered old mid → HasGathered mid on → IsJoinOf on other new → HasGathered old new
join_gathered old mid on other new split others joined =
    record {
      start = joined.start ∙ others.start ∙ split.start;
      planners = joined.shared ∙ others.planners ∙ split.planners;
      planner = joined.planner ∙ others.planner ∙ split.planner;
      none_own = ap (λ (n : ℕ). own_of n new.made) joined.planner ∙ joined.own ∙ others.none_own;
      numbered = joined.numbered;
      kept = joined.kept;
    }

-- numbers of passes that were joined have the same entries in both journals
pub own_at : (made found : List Entry) (past : List Numbered) → All (HasJust made) past → All (HasJust found) past → (number : ℕ) → Any (λ (numbered : Numbered). numbered.0 ≡ number) past → own_of number found ≡ own_of number made
own_at made found past before now number (at, numbered, inside, there, is) =
    let here : own_of numbered.0 found ≡ numbered.1 = subst (HasJust found) there (now at numbered inside) in
    let then : own_of numbered.0 made ≡ numbered.1 = subst (HasJust made) there (before at numbered inside) in
    subst (λ (n : ℕ). own_of n found ≡ own_of n made) is (here ∙ sym then)

module _ (on other new : PassState) (joined : IsJoinOf on other new) where
  -- the passes that were joined before have no more entries
  pub own_kept : All (HasJust on.made) on.past → (number : ℕ) → Any (λ (numbered : Numbered). numbered.0 ≡ number) on.past → own_of number new.made ≡ own_of number on.made
  own_kept before number joined_before =
      let both : All (HasJust new.made) (on.past ++ (other.planner, own_of other.planner other.made) ∷ other.past) = subst (All (HasJust new.made)) joined.past joined.kept in
      let still : All (HasJust new.made) on.past = λ at numbered inside.
      let more : at < length (on.past ++ (other.planner, own_of other.planner other.made) ∷ other.past) = omega (arith, length-append on.past ((other.planner, own_of other.planner other.made) ∷ other.past)) in
      subst (HasJust new.made) (get_or_append_left on.past _ numbered at inside) (both at numbered more) in
      own_at on.made new.made on.past before still number joined_before

  -- and so was the one before them
  pub one_more_joined : (first many : ℕ) → other.planner ≡ first → AreJoined (first + 1) many on.past → AreJoined first (suc many) new.past
  one_more_joined first many is later number low high =
      subst (Any (λ (numbered : Numbered). numbered.0 ≡ number)) (sym joined.past)
      (dite (ℕ_discrete number first)
      (λ same. (length on.past, (other.planner, own_of other.planner other.made), omega (arith, length-append on.past ((other.planner, own_of other.planner other.made) ∷ other.past)), get_or-append_seam on.past _ other.past _, is ∙ sym same))
      (λ another.
      let (at, numbered, inside, there, same) = later number (omega arith) (omega arith) in
      (at, numbered, omega (arith, length-append on.past ((other.planner, own_of other.planner other.made) ∷ other.past)), get_or_append_left on.past _ numbered at inside ∙ there, same)))
