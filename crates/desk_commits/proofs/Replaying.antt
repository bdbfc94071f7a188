-- Entries committed one after the other.
use Rattle.std.proofs.Common.{◌≡◌, ◌+◌, ◌-◌, List, [], ◌∷◌, ◌++◌, length, take, Some, Err, refl, sym, ap, subst, ◌∙◌, arith}
use Rattle.std.specs.List.{slice_get}
use Rattle.std.proofs.lemmas.Option.{gets}
use Rattle.std.proofs.lemmas.Grind.{common_steps}
use Rattle.desk_commits.specs.Entries.{Entry}
use Rattle.desk_commits.specs.State.{DeskState, grown, after}
use Rattle.desk_commits.specs.Commits.{Accepts, Refuses}
use Rattle.desk_commits.specs.Replays.{IsLegal, IsFirstRefused, Recommits, fault_of}
use Rattle.desk_commits.specs.declared.answers.Refusal.{Refusal}
use Rattle.desk_commits.specs.declared.answers.Refusal.TheVariants.{OutOfMemory}

pub IsLegal-push : (desk : DeskState) (entries : List Entry) (entry : Entry) → IsLegal desk entries → Accepts (after desk entries) entry → IsLegal desk (entries ++ entry ∷ [])
IsLegal-push desk [] entry legal accepts = (accepts, tt)
IsLegal-push desk (first ∷ later) entry legal accepts = (legal.0, IsLegal-push (grown desk first) later entry legal.1 accepts)

pub after-push : (desk : DeskState) (entries : List Entry) (entry : Entry) → after desk (entries ++ entry ∷ []) ≡ grown (after desk entries) entry
after-push desk [] entry = refl
after-push desk (first ∷ later) entry = after-push (grown desk first) later entry

slice_get-middle : (done : List Entry) (entry : Entry) (rest : List Entry) → slice_get (done ++ entry ∷ rest) (length done) ≡ Some entry
slice_get-middle done entry rest = grind (arith, common_steps, gets)

take-front : (done rest : List Entry) → take (length done) (done ++ rest) ≡ done
take-front done rest = grind (arith, common_steps)

first_refused : (desk : DeskState) (done rest entries : List Entry) (entry : Entry) (why : Refusal) → done ++ entry ∷ rest ≡ entries → IsLegal desk done → Refuses (after desk done) entry why → IsFirstRefused desk entries (length done + 1) why
first_refused desk done rest entries entry why all legal refuses =
    let back : length done + 1 - 1 ≡ length done = omega arith in
    let front : take (length done + 1 - 1) entries ≡ done = ap (λ n. take n entries) back ∙ ap (λ es. take (length done) es) (sym all) ∙ take-front done (entry ∷ rest) in
    record {
      entry = entry;
      counted = omega arith;
      there = ap (λ n. slice_get entries n) back ∙ ap (λ es. slice_get es (length done)) (sym all) ∙ slice_get-middle done entry rest;
      before = subst (IsLegal desk) (sym front) legal;
      refused = subst (λ es. Refuses (after desk es) entry why) (sym front) refuses;
    }

-- what comes of an entry that is refused
pub recommits_refused : (desk : DeskState) (done rest entries : List Entry) (entry : Entry) (why : Refusal) → done ++ entry ∷ rest ≡ entries → IsLegal desk done → Refuses (after desk done) entry why → Recommits desk entries (Err (fault_of (length done + 1) why))
recommits_refused desk done rest entries entry OutOfMemory all legal refuses = (length done + 1, first_refused desk done rest entries entry OutOfMemory all legal refuses)
recommits_refused desk done rest entries entry reason all legal refuses = (first_refused desk done rest entries entry reason all legal refuses, λ e. cc)
