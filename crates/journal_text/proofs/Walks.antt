-- A walk of lines leads to one place, and its lines are of plain words.
use Rattle.std.proofs.Common.{◌≡◌, ℕ, suc, zero, true, List, [], ◌∷◌, ◌++◌, length, refl, ap, sym, ◌∙◌, subst, inl, inr, arith}
use Rattle.std.proofs.lemmas.Bool.{eqb-false}
use Rattle.std.proofs.lemmas.Fmt.{decimal_injective}
use Rattle.plan_table.specs.declared.tracks.Mode.{Mode}
use Rattle.plan_table.specs.declared.tracks.Mode.TheVariants.{Stay, Disappear}
use Rattle.scene_edits.specs.declared.changes.Thing.{Thing}
use Rattle.scene_edits.specs.declared.edits.Edit.{Edit}
use Rattle.journal_text.specs.Lines.{mode_words, end_words}
use Rattle.journal_text.specs.Begun.{IsHead, head_words, fresh}
use Rattle.journal_text.specs.Places.{settled, Steps, IsPlace}
use Rattle.journal_text.specs.declared.places.Heading.TheVariants.{Second}
use Rattle.journal_text.specs.declared.places.Head.{Head}
use Rattle.journal_text.specs.declared.places.Place.{Place}
use Rattle.journal_text.specs.declared.places.Place.TheVariants.{Start, Versioned, Between, Inside, Over}
use Rattle.journal_text.proofs.PlainWords.{are_plain, plain-watch, plain-edit, plain-entry, plain-mode, plain-end}
use Rattle.journal_text.proofs.Grammar.{watch_words-injective, edit_words-injective}

-- the lines lead from the first place to the last
abbrev pub Walks : Place → List (List (List ℕ)) → Place → Type 0
Walks place [] last = last ≡ place
Walks place (words ∷ lines) last = (mid : Place) × Steps place words mid × Walks mid lines last

pub walk-more : (place last next : Place) (lines : List (List (List ℕ))) (words : List (List ℕ)) → Walks place lines last → Steps last words next → Walks place (lines ++ words ∷ []) next
walk-more place last next [] words walk step = (next, subst (λ (p : Place). Steps p words next) walk step, refl)
walk-more place last next (line ∷ lines) words walk step = (walk.0, walk.1, walk-more walk.0 last next lines words walk.2 step)

pub walk-join : (place mid last : Place) (lines others : List (List (List ℕ))) → Walks place lines mid → Walks mid others last → Walks place (lines ++ others) last
walk-join place mid last [] others walk later = subst (λ (p : Place). Walks p others last) walk later
walk-join place mid last (line ∷ lines) others walk later = (walk.0, walk.1, walk-join walk.0 mid last lines others walk.2 later)

pub walk-split : (place last : Place) (lines others : List (List (List ℕ))) → Walks place (lines ++ others) last → (mid : Place) × Walks place lines mid × Walks mid others last
walk-split place last [] others walk = (place, refl, walk)
walk-split place last (line ∷ lines) others walk =
    let later = walk-split walk.0 last lines others walk.2 in
    (later.0, (walk.0, walk.1, later.1), later.2)

-- the byte at an index of the first word, and of the second
abbrev pub at : List ℕ → ℕ → ℕ
at [] n = 0
at (x ∷ xs) zero = x
at (x ∷ xs) (suc n) = at xs n

abbrev pub word_at : List (List ℕ) → ℕ → List ℕ
word_at [] n = []
word_at (x ∷ xs) zero = x
word_at (x ∷ xs) (suc n) = word_at xs n

mode-same : (a b : Mode) → mode_words a ≡ mode_words b → a ≡ b
mode-same Stay Stay same = refl
mode-same Stay Disappear same = absurd (eqb-false 115 100 refl (ap (λ (ws : List (List ℕ)). at (word_at ws 1) 0) same))
mode-same Disappear Stay same = absurd (eqb-false 100 115 refl (ap (λ (ws : List (List ℕ)). at (word_at ws 1) 0) same))
mode-same Disappear Disappear same = refl

head-same : (a b : Head) → IsHead a → IsHead b → head_words a ≡ head_words b → a ≡ b
head-same a b one other same =
    let planner : a.planner ≡ b.planner = decimal_injective a.planner b.planner (omega (arith, one.planner_most)) (omega (arith, other.planner_most)) (ap (λ (ws : List (List ℕ)). word_at ws 1) same) in
    let base : a.base ≡ b.base = decimal_injective a.base b.base one.base_most other.base_most (ap (λ (ws : List (List ℕ)). word_at ws 2) same) in
    let watches : a.watches ≡ b.watches = decimal_injective a.watches b.watches (omega (arith, one.watches_most)) (omega (arith, other.watches_most)) (ap (λ (ws : List (List ℕ)). word_at ws 3) same) in
    let edits : a.edits ≡ b.edits = decimal_injective a.edits b.edits (omega (arith, one.edits_most)) (omega (arith, other.edits_most)) (ap (λ (ws : List (List ℕ)). word_at ws 4) same) in
    ap (λ (n : ℕ). let h : Head = record { planner = n; base = a.base; watches = a.watches; edits = a.edits } in h) planner
    ∙ ap (λ (n : ℕ). let h : Head = record { planner = b.planner; base = n; watches = a.watches; edits = a.edits } in h) base
    ∙ ap (λ (n : ℕ). let h : Head = record { planner = b.planner; base = b.base; watches = n; edits = a.edits } in h) watches
    ∙ ap (λ (n : ℕ). let h : Head = record { planner = b.planner; base = b.base; watches = b.watches; edits = n } in h) edits

head-end : (head : Head) (count : ℕ) → head_words head ≡ end_words count → ⊥
head-end head count same = absurd (eqb-false 116 100 refl (ap (λ (ws : List (List ℕ)). at (word_at ws 0) 2) same))

-- a line leads to one place
pub step-same : (place a b : Place) (words : List (List ℕ)) → Steps place words a → Steps place words b → a ≡ b
step-same Start a b words one other =
    elim one [
      | inl x ↦ elim other [
        | inl y ↦ x.1 ∙ sym y.1
        | inr y ↦ absurd (eqb-false 49 50 refl (ap (λ (ws : List (List ℕ)). at (word_at ws 1) 0) (sym x.0 ∙ y.0)))
      ]
      | inr x ↦ elim other [
        | inl y ↦ absurd (eqb-false 50 49 refl (ap (λ (ws : List (List ℕ)). at (word_at ws 1) 0) (sym x.0 ∙ y.0)))
        | inr y ↦ x.1 ∙ sym y.1
      ]
    ]
step-same Versioned a b words one other = one.2 ∙ ap (λ (mode : Mode). let p : Place = Between (Second mode) [] in p) (mode-same one.0 other.0 (sym one.1 ∙ other.1)) ∙ sym other.2
step-same (Between heading entries) a b words one other =
    elim one [
      | inl x ↦ elim other [
        | inl y ↦ x.leads ∙ ap (λ (head : Head). settled heading entries (fresh head)) (head-same x.head y.head x.numbers y.numbers (sym x.line ∙ y.line)) ∙ sym y.leads
        | inr y ↦ absurd (head-end x.head (length entries) (sym x.line ∙ y.0))
      ]
      | inr x ↦ elim other [
        | inl y ↦ absurd (head-end y.head (length entries) (sym y.line ∙ x.0))
        | inr y ↦ x.1 ∙ sym y.1
      ]
    ]
step-same (Inside heading entries entry) a b words one other =
    elim one [
      | inl x ↦ elim other [
        | inl y ↦ x.leads ∙ ap (λ (thing : Thing). settled heading entries (record entry { watch = entry.watch ++ thing ∷ [] })) (watch_words-injective x.thing y.thing x.lawful y.lawful (sym x.line ∙ y.line)) ∙ sym y.leads
        | inr y ↦ let due = x.due in let done = y.watched in absurd (omega arith)
      ]
      | inr x ↦ elim other [
        | inl y ↦ let due = y.due in let done = x.watched in absurd (omega arith)
        | inr y ↦ x.leads ∙ ap (λ (edit : Edit). settled heading entries (record entry { edits = entry.edits ++ edit ∷ [] })) (edit_words-injective x.edit y.edit x.lawful y.lawful (sym x.line ∙ y.line)) ∙ sym y.leads
      ]
    ]
step-same (Over heading entries) a b words one other = absurd one

pub walk-same : (place a b : Place) (lines : List (List (List ℕ))) → Walks place lines a → Walks place lines b → a ≡ b
walk-same place a b [] one other = one ∙ sym other
walk-same place a b (words ∷ lines) one other =
    let mid : other.0 ≡ one.0 = step-same place other.0 one.0 words other.1 one.1 in
    walk-same one.0 a b lines one.2 (subst (λ (p : Place). Walks p lines b) mid other.2)

-- the line is of plain words
pub step-plain : (place next : Place) (words : List (List ℕ)) → IsPlace place → Steps place words next → are_plain words ≡ true
step-plain Start next words lawful step = elim step [ inl x ↦ rw x.0 refl | inr x ↦ rw x.0 refl ]
step-plain Versioned next words lawful step = rw step.1 (plain-mode step.0)
step-plain (Between heading entries) next words lawful step =
    elim step [
      | inl x ↦ rw x.line (plain-entry x.head.planner x.head.base x.head.watches x.head.edits x.numbers)
      | inr x ↦ rw x.0 (plain-end (length entries) (omega (arith, lawful.0)))
    ]
step-plain (Inside heading entries entry) next words lawful step = elim step [ inl x ↦ rw x.line (plain-watch x.thing x.lawful) | inr x ↦ rw x.line (plain-edit x.edit x.lawful) ]
step-plain (Over heading entries) next words lawful step = absurd step
