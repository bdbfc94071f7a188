-- What callers are told follows from what the steps told.
use Rattle.std.specs.Prelude.{◌⊎◌, slice_index_or, All}
use mathlib.Core.List.{IsPrefix}
use Rattle.std.proofs.Common.{◌≡◌, ◌≢◌, ℕ, ◌+◌, ◌<◌, Bool, false, List, [], ◌∷◌, ◌++◌, length-append, arith, get_or, true, sym, ap, ◌∙◌, subst, Option, Some, Ok, Err}
use Rattle.std.proofs.lemmas.Bool.Decides.{nat_tests}
use Rattle.std.proofs.lemmas.Grind.{common_steps}
use Rattle.std.proofs.lemmas.Option.{gets}
use mathlib.Core.Option.{some, some-injective}
use lib.ListN.{get_elem?}
use Rattle.atomic_table.specs.Table.{Final, Seen}
use Rattle.desk_commits.specs.Entries.{Entry}
use Rattle.desk_commits.specs.State.{DeskState, version_of, grown, after}
use Rattle.desk_commits.specs.Commits.{Accepts, Committed}
use Rattle.desk_commits.specs.declared.answers.Refusal.{Refusal}
use Rattle.desk_commits.proofs.Replaying.{after-push}
use Rattle.desk_shared.specs.declared.board.Known.{Known}
use Rattle.desk_shared.specs.declared.board.Stage.TheVariants.{Idle, Holding}
use Rattle.desk_shared.specs.Passes.{PassState, own_of, version_at, AreOfPlanners, HasJust, ExtendsSeen}
use Rattle.desk_shared.specs.Calls.{CommitsBy, IsLastSeen, IsDeskAtClose, IsLeast, IsSplit, IsJoinOf}
use Rattle.desk_shared.specs.Turns.{shown, since, Ruled, posed, Unspent, giver, given, both}
use Rattle.desk_shared.specs.Numbers.{first_true}
use Rattle.desk_shared.proofs.Journals.{version_after}
use Rattle.desk_shared.proofs.Beginnings.{own_of-mine, longer_is}
use Rattle.desk_shared.proofs.Unused.{at_or, blank}
use Rattle.desk_shared.proofs.Kept.{desk_or, found}
use Rattle.desk_shared.proofs.Turning.{since_next}

pub commits : (k k1 k2 : Known) (e : Entry) (v : ℕ) (d0 d1 : DeskState) → ExtendsSeen (shown k) k1.made → k1 ≡ posed k Holding k1.made → d0 ≡ after k1.start k1.made → Committed d0 e (Ok v) d1
    → e.planner ≡ k.planner → k2 ≡ posed k1 Idle (since k1.start d1) → CommitsBy (shown k) e (Ok v) (shown k2)
commits k k1 k2 e v d0 d1 f same at did mine now =
    let start : k1.start ≡ k.start = ap (λ (z : Known). z.start) same in
    let at' : d0 ≡ after k.start k1.made = at ∙ ap (λ (z : DeskState). after z k1.made) start in
    let to : d1 ≡ grown (after k1.start k1.made) e = did.2 ∙ ap (λ (z : DeskState). grown z e) at in
    let made : k2.made ≡ k1.made ++ e ∷ [] = ap (λ (z : Known). z.made) now ∙ (ap (since k1.start) to ∙ since_next k1 e) in
    record {
      same = record {
        start = ap (λ (z : Known). z.start) now ∙ start;
        shared = ap (λ (z : Known). z.planners) now ∙ ap (λ (z : Known). z.planners) same;
        floor = ap (λ (z : Known). z.floor) now ∙ ap (λ (z : Known). z.floor) same;
        planner = ap (λ (z : Known). z.planner) now ∙ ap (λ (z : Known). z.planner) same;
        unused = ap (λ (z : Known). z.unused) now ∙ ap (λ (z : Known). z.unused) same;
        past = ap (λ (z : Known). z.past) now ∙ ap (λ (z : Known). z.past) same;
      };
      found = k1.made;
      goes_on = f;
      seen = made;
      answered = (subst (λ (z : DeskState). Accepts z e) at' did.0, did.1 ∙ ap (λ (z : DeskState). version_of z + 1) at', ap (after k.start) made ∙ after-push k.start k1.made e);
      own = ap (own_of k.planner) made ∙ (own_of-mine k.planner k1.made e mine ∙ ap (λ (z : List Entry). z ++ e ∷ []) f.own);
    }

-- the version of a desk that refused a commit
pub refused_at : (k1 k2 : Known) (e : Entry) (refused : Refusal × Entry) (version : ℕ) (d1 : DeskState) → (d0 : DeskState) → d0 ≡ after k1.start k1.made → Committed d0 e (Err refused) d1 → version ≡ version_of d1 → k2 ≡ posed k1 Idle k1.made → version ≡ version_at k2.start k2.made
refused_at k1 k2 e refused version d1 d0 at did is now =
    is ∙ ap version_of (did.2 ∙ at) ∙ version_after k1.start k1.made ∙ sym (ap (λ (z : Known). version_at z.start z.made) now)

pub closes : (ws : List ℕ) (xs : List (Option DeskState)) (id : ℕ) (k : Known) (d : DeskState) → k.live ≡ true → Final (Seen Ruled id k) ws xs → get_elem? ws 1 ≡ some 0 → get_elem? xs 0 ≡ some (Some d) → IsDeskAtClose (shown k) d
closes ws xs id k d live last free there =
    let s = last.0 in
    let r = last.1.0 in
    let mine = (r.each id k last.1.1 live).0 in
    let turn : get_or s.words 1 0 ≡ 0 = ap (λ (l : List ℕ). get_or l 1 0) last.2 ∙ at_or ws 1 0 0 free in
    let home = last.4 0 _ (r.home turn) in
    let is : Some d ≡ Some (after r.start r.log) = some-injective _ _ (sym there ∙ home) in
    record { found = r.log; goes_on = found s r id k mine; desk_is = ap (desk_or d) is ∙ ap (λ (z : DeskState). after z r.log) (sym mine.same) }

splitted_so : (k : Known) → Unspent k → IsLeast (shown k) (first_true k.unused) → IsSplit (shown k) (shown (giver k)) (shown (given k))
splitted_so k unspent least = grind (arith, common_steps, unspent (first_true k.unused) least.kept, blank 256)

pub splitted : (k l n : Known) → l ≡ giver k → n ≡ given k → Unspent k → IsLeast (shown k) (first_true k.unused) → IsSplit (shown k) (shown l) (shown n)
splitted k l n is is' unspent least = subst (λ (z : Known × Known). IsSplit (shown k) (shown z.0) (shown z.1)) (λ i. (sym is i, sym is' i)) (splitted_so k unspent least)

-- the facts of a list of numbers, and of its least
pub least_of : (k : Known) (unused : List Bool) (i : ℕ) → k.unused ≡ unused → i ≡ first_true unused → slice_index_or unused i false ≡ true → ((u : ℕ) → u < i → slice_index_or unused u false ≡ false) → IsLeast (shown k) (first_true k.unused)
least_of k unused i same is may below = grind (arith, nat_tests, common_steps, gets)

pub joined_so : (k o m w : Known) → m ≡ both k o
    → (IsPrefix k.made m.made × IsPrefix o.made m.made × (own_of k.planner m.made ≡ own_of k.planner k.made) × (own_of o.planner m.made ≡ own_of o.planner o.made) × (o.start ≡ m.start)) × AreOfPlanners m.planners m.made × All (HasJust m.made) m.past × All (λ (n : ℕ × List Entry). n.0 ≢ m.planner) m.past × (w ≡ posed m Idle m.made)
    → IsJoinOf (shown k) (shown o) (shown w)
joined_so k o m w is (told, numbered, kept, apart, now) = subst (λ (z : Known). IsJoinOf (shown k) (shown o) (shown z)) (sym now) record {
  start = ap (λ (z : Known). z.start) is;
  one_desk = told.4 ∙ ap (λ (z : Known). z.start) is;
  shared = ap (λ (z : Known). z.planners) is;
  planner = ap (λ (z : Known). z.planner) is;
  floor = ap (λ (z : Known). z.floor) is;
  one_of_both = subst (λ (z : List Entry). (z ≡ k.made) ⊎ (z ≡ o.made)) (sym (ap (λ (z : Known). z.made) is)) (longer_is k.made o.made m.made told.0 told.1);
  seen = told.0;
  others = told.1;
  own = told.2;
  own_of_other = told.3;
  numbered = numbered;
  unused = ap (λ (z : Known). z.unused) is;
  past = ap (λ (z : Known). z.past) is;
  kept = kept;
  apart = apart;
}

pub ends_with : (k l : PassState) (e : Entry) (v : ℕ) → CommitsBy k e (Ok v) l → IsLastSeen l e v
ends_with k l e v told =
    let as_long = version_after k.start told.found in
    let longer = length-append told.found (e ∷ []) in
    let is : version_at l.start l.made ≡ version_at k.start (told.found ++ e ∷ []) = λ i. version_at (told.same.start i) (told.seen i) in
    let count = told.answered.1 in
    record { numbered = omega arith; before = told.found; last = told.seen }
