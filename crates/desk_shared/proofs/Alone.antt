-- A pass that has each number of the desk finds what it has seen.
use Rattle.std.specs.Prelude.{All, Any}
use Rattle.std.proofs.Common.{◌≡◌, ◌≢◌, ⊎_elim, ℕ, ◌<◌, List, [], ◌∷◌, ◌++◌, length, arith, refl, sym, subst, ◌∙◌}
use Rattle.std.proofs.lemmas.List.{append-nil}
use Rattle.std.proofs.lemmas.List.Elements.{All-head, All-drop}
use Rattle.desk_commits.specs.Entries.{Entry}
use Rattle.desk_shared.specs.Passes.{PassState, own_of, MayGive, HasJust, IsOfAnother, ExtendsSeen}
use Rattle.desk_shared.specs.Laws.{AloneFindsWhatItSaw, OnePlannerFindsWhatItSaw}
use Rattle.desk_shared.proofs.Beginnings.{after_prefix, own_rest, none_own}

-- where no number of another has more entries, there are no more
no_more : (pass : PassState) (made rest : List Entry) (is : pass.made ++ rest ≡ made) → ExtendsSeen pass made → ((number : ℕ) → number < pass.planners → IsOfAnother pass number → own_of number made ≡ own_of number pass.made) → made ≡ pass.made
no_more pass made [] is on same = sym is ∙ append-nil pass.made
no_more pass made (first ∷ later) is on same =
    let others : All (λ (entry : Entry). IsOfAnother pass entry.planner) (first ∷ later) = subst (All (λ (entry : Entry). IsOfAnother pass entry.planner)) (after_prefix pass.made made (first ∷ later, is)) on.others in
    let numbered : All (λ (entry : Entry). entry.planner < pass.planners) (first ∷ later) =
    subst (All (λ (entry : Entry). entry.planner < pass.planners)) (after_prefix pass.made made (first ∷ later, is)) (All-drop (λ (entry : Entry). entry.planner < pass.planners) (length pass.made) made on.numbered) in
    let none = own_rest first.planner pass.made made (first ∷ later, is) (same first.planner (All-head (λ (entry : Entry). entry.planner < pass.planners) first later numbered) (All-head (λ (entry : Entry). IsOfAnother pass entry.planner) first later others)) in
    absurd (All-head (λ (entry : Entry). entry.planner ≢ first.planner) first later (none_own first.planner (first ∷ later) none) refl)

pub alone_finds_what_it_saw_holds : AloneFindsWhatItSaw
alone_finds_what_it_saw_holds pass made each past on = no_more pass made on.seen.0 on.seen.1 on (λ number below other.
    ⊎_elim (λ (own : number ≡ pass.planner). absurd (other.0 own))
    (λ rest. ⊎_elim (λ (give : MayGive pass number). absurd (other.1 give))
    (λ (joined : Any (λ (numbered : ℕ × List Entry). numbered.0 ≡ number) pass.past).
    let (at, numbered, inside, there, is) = joined in
    let now : own_of numbered.0 made ≡ numbered.1 = subst (HasJust made) there (on.past at numbered inside) in
    let before : own_of numbered.0 pass.made ≡ numbered.1 = subst (HasJust pass.made) there (past at numbered inside) in
    subst (λ (n : ℕ). own_of n made ≡ own_of n pass.made) is (now ∙ sym before)) rest) (each number below))

pub one_planner_finds_what_it_saw_holds : OnePlannerFindsWhatItSaw
one_planner_finds_what_it_saw_holds pass made one first on = no_more pass made on.seen.0 on.seen.1 on (λ number below other. absurd (other.0 (omega arith)))
