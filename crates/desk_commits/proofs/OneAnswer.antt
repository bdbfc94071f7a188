-- To a commit there is one answer at most besides want of memory.
use Rattle.std.proofs.Common.{◌≡◌, ◌≢◌, ℕ, List, Some, Ok, Err, inl, inr, refl, sym, ap, subst, ◌∙◌, arith}
use Rattle.std.specs.List.{slice_get}
use Rattle.std.proofs.lemmas.Bool.{cases_order}
use Rattle.std.proofs.lemmas.Option.{same_Some}
use Rattle.scene_edits.specs.declared.changes.Thing.{Thing}
use Rattle.scene_edits.specs.declared.edits.EditsFault.{EditsFault}
use Rattle.scene_edits.specs.declared.edits.EditsFault.TheVariants as some_edit
use Rattle.scene_edits.proofs.OneAnswers.{not_both, one_first_fault}
use Rattle.desk_commits.specs.Entries.{Entry, things_of}
use Rattle.desk_commits.specs.State.{DeskState}
use Rattle.desk_commits.specs.Stale.{IsFreshSince, IsLastNaming, IsStaleBy, IsFresh}
use Rattle.desk_commits.specs.Commits.{Accepts, Refuses}
use Rattle.desk_commits.specs.Laws.{OneAnswerToACommit}
use Rattle.desk_commits.specs.declared.answers.Refusal.{Refusal}
use Rattle.desk_commits.specs.declared.answers.Refusal.TheVariants.{JournalFull, Ahead, NoEdits, Stale, Faulty, OutOfMemory}

not_fresh : (journal : List Entry) (base : ℕ) (thing : Thing) (number : ℕ) → IsLastNaming journal base thing number → IsFreshSince journal base thing → ⊥
not_fresh journal base thing number last fresh = fresh number last.newer last.named

stale_not_fresh : (journal : List Entry) (commit : Entry) (thing : Thing) (number : ℕ) → IsStaleBy journal commit thing number → IsFresh journal commit → ⊥
stale_not_fresh journal commit thing number stale fresh = not_fresh journal commit.base thing number stale.last (fresh stale.rank thing stale.told)

one_last : (journal : List Entry) (base : ℕ) (thing : Thing) (m n : ℕ) → IsLastNaming journal base thing m → IsLastNaming journal base thing n → m ≡ n
one_last journal base thing m n first second = grind (arith, first.last n, second.last m, first.named, second.named)

one_stale : (journal : List Entry) (commit : Entry) (s t : Thing) (m n now : ℕ) → IsStaleBy journal commit s m → IsStaleBy journal commit t n → Stale now s m ≡ Stale now t n
one_stale journal commit s t m n now first second =
    elim (cases_order first.rank second.rank) [
      | inl is ↦
          let there : slice_get (things_of commit) first.rank ≡ Some t = subst (λ k. slice_get (things_of commit) k ≡ Some t) (sym is) second.told in
          let same : s ≡ t = same_Some s t (sym first.told ∙ there) in
          let last : IsLastNaming journal commit.base s n = subst (λ (thing : Thing). IsLastNaming journal commit.base thing n) (sym same) second.last in
          ap (λ thing. Stale now thing m) same ∙ ap (Stale now t) (one_last journal commit.base s m n first.last last)
      | inr (inl less) ↦ absurd (not_fresh journal commit.base s m first.last (second.first first.rank s less first.told))
      | inr (inr more) ↦ absurd (not_fresh journal commit.base t n second.last (first.first second.rank t more second.told))
    ]

-- the refusal for a faulty edit
abbrev refusal_of : EditsFault → Refusal
refusal_of (some_edit.Faulty index why) = Faulty index why
refusal_of some_edit.OutOfMemory = OutOfMemory

-- an accepted commit isn't refused, but for want of memory
pub accepted_only : (desk : DeskState) (commit : Entry) (why : Refusal) → Accepts desk commit → Refuses desk commit why → why ≡ OutOfMemory
accepted_only desk commit (JournalFull limit) accepts refuses = absurd (omega (arith, accepts.current.in_order.room, refuses.0))
accepted_only desk commit (Ahead now) accepts refuses = absurd (omega (arith, accepts.current.in_order.base, refuses.1))
accepted_only desk commit NoEdits accepts refuses = absurd (accepts.current.in_order.edits refuses.2)
accepted_only desk commit (Stale now thing at) accepts refuses = absurd (stale_not_fresh desk.journal commit thing at refuses.2 accepts.current.fresh)
accepted_only desk commit (Faulty index why) accepts refuses = absurd (not_both desk.scene commit.edits index why accepts.allowed refuses.1)
accepted_only desk commit OutOfMemory accepts refuses = refl

module _ (desk : DeskState) (commit : Entry) where
  one_refusal : (a b : Refusal) → Refuses desk commit a → Refuses desk commit b → a ≢ OutOfMemory → b ≢ OutOfMemory → a ≡ b
  one_refusal (JournalFull limit) (JournalFull other) first second some some_too = ap JournalFull (first.1 ∙ sym second.1)
  one_refusal (JournalFull limit) (Ahead now) first second some some_too = absurd (omega (arith, first.0, second.0))
  one_refusal (JournalFull limit) NoEdits first second some some_too = absurd (omega (arith, first.0, second.0))
  one_refusal (JournalFull limit) (Stale now thing at) first second some some_too = absurd (omega (arith, first.0, second.0.room))
  one_refusal (JournalFull limit) (Faulty index why) first second some some_too = absurd (omega (arith, first.0, second.0.in_order.room))
  one_refusal (Ahead now) (JournalFull limit) first second some some_too = absurd (omega (arith, first.0, second.0))
  one_refusal (Ahead now) (Ahead other) first second some some_too = ap Ahead (first.2 ∙ sym second.2)
  one_refusal (Ahead now) NoEdits first second some some_too = absurd (omega (arith, first.1, second.1))
  one_refusal (Ahead now) (Stale other thing at) first second some some_too = absurd (omega (arith, first.1, second.0.base))
  one_refusal (Ahead now) (Faulty index why) first second some some_too = absurd (omega (arith, first.1, second.0.in_order.base))
  one_refusal NoEdits (JournalFull limit) first second some some_too = absurd (omega (arith, first.0, second.0))
  one_refusal NoEdits (Ahead now) first second some some_too = absurd (omega (arith, first.1, second.1))
  one_refusal NoEdits NoEdits first second some some_too = refl
  one_refusal NoEdits (Stale now thing at) first second some some_too = absurd (second.0.edits first.2)
  one_refusal NoEdits (Faulty index why) first second some some_too = absurd (second.0.in_order.edits first.2)
  one_refusal (Stale now thing at) (JournalFull limit) first second some some_too = absurd (omega (arith, first.0.room, second.0))
  one_refusal (Stale now thing at) (Ahead other) first second some some_too = absurd (omega (arith, first.0.base, second.1))
  one_refusal (Stale now thing at) NoEdits first second some some_too = absurd (first.0.edits second.2)
  one_refusal (Stale now thing at) (Stale other another after) first second some some_too =
      ap (λ n. Stale n thing at) (first.1 ∙ sym second.1) ∙ one_stale desk.journal commit thing another at after other first.2 second.2
  one_refusal (Stale now thing at) (Faulty index why) first second some some_too = absurd (stale_not_fresh desk.journal commit thing at first.2 second.0.fresh)
  one_refusal (Faulty index why) (JournalFull limit) first second some some_too = absurd (omega (arith, first.0.in_order.room, second.0))
  one_refusal (Faulty index why) (Ahead now) first second some some_too = absurd (omega (arith, first.0.in_order.base, second.1))
  one_refusal (Faulty index why) NoEdits first second some some_too = absurd (first.0.in_order.edits second.2)
  one_refusal (Faulty index why) (Stale now thing at) first second some some_too = absurd (stale_not_fresh desk.journal commit thing at second.2 first.0.fresh)
  one_refusal (Faulty index why) (Faulty other reason) first second some some_too =
      ap refusal_of (one_first_fault desk.scene commit.edits index other why reason first.1 second.1)
  one_refusal OutOfMemory b first second some some_too = absurd (some refl)
  one_refusal a OutOfMemory first second some some_too = absurd (some_too refl)

pub one_answer_to_a_commit_holds : OneAnswerToACommit
one_answer_to_a_commit_holds old new next commit (Ok a) (Ok b) first second room room_too = (ap Ok (first.1 ∙ sym second.1), first.2 ∙ sym second.2)
one_answer_to_a_commit_holds old new next commit (Ok a) (Err (why, back)) first second room room_too =
    absurd (room_too back (ap (λ w. Err (w, back)) (accepted_only old commit why first.0 second.0)))
one_answer_to_a_commit_holds old new next commit (Err (why, back)) (Ok b) first second room room_too =
    absurd (room back (ap (λ w. Err (w, back)) (accepted_only old commit why second.0 first.0)))
one_answer_to_a_commit_holds old new next commit (Err (a, back)) (Err (b, other)) first second room room_too =
    let same : a ≡ b = one_refusal old commit a b first.0 second.0 (λ is. room back (ap (λ w. Err (w, back)) is)) (λ is. room_too other (ap (λ w. Err (w, other)) is)) in
    (ap (λ w. Err (w, back)) same ∙ ap (λ e. Err (b, e)) (first.1 ∙ sym second.1), first.2 ∙ sym second.2)
