use Rattle.std.proofs.Common.{◌≡◌, ℕ, List, Option, Some, ap, sym, ◌∙◌, arith}
use Rattle.journal_text.specs.declared.places.Head.{Head}
use Rattle.journal_text.proofs.Walks.{word_at}
use Rattle.journal_text.proofs.lines.numbers_of.Goals as goal

head-is : (head : Head) (planner base watches edits : ℕ) → planner ≡ head.planner → base ≡ head.base → watches ≡ head.watches → edits ≡ head.edits → (let made : Option Head = Some (record { planner = planner; base = base; watches = watches; edits = edits }) in made ≡ Some head)
head-is head planner base watches edits a b c d =
    ap (λ (n : ℕ). let h : Option Head = Some (record { planner = n; base = base; watches = watches; edits = edits }) in h) a
    ∙ ap (λ (n : ℕ). let h : Option Head = Some (record { planner = head.planner; base = n; watches = watches; edits = edits }) in h) b
    ∙ ap (λ (n : ℕ). let h : Option Head = Some (record { planner = head.planner; base = head.base; watches = n; edits = edits }) in h) c
    ∙ ap (λ (n : ℕ). let h : Option Head = Some (record { planner = head.planner; base = head.base; watches = head.watches; edits = n }) in h) d

pub returns-in_err-planner : goal.returns-in_err-planner
returns-in_err-planner c = λ head lawful same. absurd (c.in_err-planner.ensures _ _ _ _ _ same)

pub returns-in_err-planner_of : goal.returns-in_err-planner_of
returns-in_err-planner_of c = λ head lawful same.
    let all = sym (c.in_ok-planner.ensures).2 ∙ same in
    let found = c.planner_of.ensures head.planner lawful.planner_most (ap (λ (ws : List (List ℕ)). word_at ws 1) all) in
    let none = c.in_err-planner_of.was in
    absurd (cc)

pub returns : goal.returns
returns c = λ head lawful same.
    let all = sym (c.in_ok-planner.ensures).2 ∙ same in
    let planner = c.planner_of.ensures head.planner lawful.planner_most (ap (λ (ws : List (List ℕ)). word_at ws 1) all) in
    let base = c.base_of.ensures head.base lawful.base_most (ap (λ (ws : List (List ℕ)). word_at ws 2) all) in
    let watches = c.small_of.ensures head.watches (omega (arith, lawful.watches_most)) (ap (λ (ws : List (List ℕ)). word_at ws 3) all) in
    let edits = c.small_of-2.ensures head.edits (omega (arith, lawful.edits_most)) (ap (λ (ws : List (List ℕ)). word_at ws 4) all) in
    let a = c.in_ok-planner_of.was in
    let b = c.in_ok-base_of.was in
    let d = c.in_ok-small_of.was in
    let e = c.in_ok-small_of-2.was in
    head-is head _ _ _ _ (cc) (cc) (cc) (cc)
