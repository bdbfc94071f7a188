-- To an edit, and to a list of edits, there is one answer at most besides want of memory.
use Rattle.std.proofs.Common.{◌≡◌, ℕ, zero, suc, ◌<◌, List, [], ◌∷◌, length, take, Some, Ok, Err, inl, inr, refl, sym, ap, subst, ◌∙◌, arith, rules}
use Rattle.std.specs.List.{slice_get}
use Rattle.std.proofs.lemmas.Bool.{cases_order}
use Rattle.std.proofs.Math.Seq.{take-length}
use Rattle.std.proofs.lemmas.Option.{same_Some, none-some, slice_get_within}
use Rattle.plan_table.specs.Plans.{row_of}
use Rattle.plan_table.specs.declared.plans.Row.{Row}
use Rattle.scene_edits.specs.Scene.{SceneState}
use Rattle.scene_edits.specs.Edited.{edited}
use Rattle.scene_edits.specs.Faults.{FaultOf, IsAllowed}
use Rattle.scene_edits.specs.Changes.{IsMove}
use Rattle.scene_edits.specs.InOrder.{edited_all, AreAllowed, AreChanges, IsFirstFault}
use Rattle.scene_edits.specs.Laws.{OneChange, OneAnswer, OneAnswerToAll}
use Rattle.scene_edits.specs.declared.edits.Edit.{Edit}
use Rattle.scene_edits.specs.declared.edits.Edit.TheVariants.{Add, Drop, Goal, Path, Tail, Open, Close}
use Rattle.scene_edits.specs.declared.edits.EditFault.{EditFault}
use Rattle.scene_edits.specs.declared.edits.ApplyFault.TheVariants.{Fault, OutOfMemory}
use Rattle.scene_edits.specs.declared.edits.EditsFault.TheVariants as some_edit
use Rattle.scene_edits.specs.declared.changes.Change.{Change}
use Rattle.scene_edits.specs.declared.changes.Change.TheVariants.{Dropped, Aimed}
use Rattle.scene_edits.proofs.TakingBack.{some_and}
use Rattle.scene_edits.proofs.Deciding.{one_fault_holds}

one_move : (old new : SceneState) (agent : ℕ) (a b : Change) → IsMove old new agent a → IsMove old new agent b → a ≡ b
one_move old new agent a b first second = search rules

pub one_change_holds : OneChange
one_change_holds scene (Add agent start goal) a b first second = first ∙ sym second
one_change_holds scene (Drop agent) a b first second =
    let (row, there, told) = some_and (row_of scene.rows agent) (λ row. a ≡ Dropped agent row) first in
    let (other, here, also) = some_and (row_of scene.rows agent) (λ row. b ≡ Dropped agent row) second in
    told ∙ ap (Dropped agent) (same_Some row other (sym there ∙ here)) ∙ sym also
one_change_holds scene (Goal agent goal) a b first second =
    let (row, there, told) = some_and (row_of scene.rows agent) (λ row. a ≡ Aimed agent row.goal) first in
    let (other, here, also) = some_and (row_of scene.rows agent) (λ row. b ≡ Aimed agent row.goal) second in
    told ∙ ap (λ (r : Row). Aimed agent r.goal) (same_Some row other (sym there ∙ here)) ∙ sym also
one_change_holds scene (Path agent cells) a b first second = one_move scene (edited scene (Path agent cells)) agent a b first second
one_change_holds scene (Tail agent from cells) a b first second = one_move scene (edited scene (Tail agent from cells)) agent a b first second
one_change_holds scene (Open cell) a b (inl (closed, told)) (inl (closed_too, also)) = told ∙ sym also
one_change_holds scene (Open cell) a b (inl (closed, told)) (inr (is_open, also)) = absurd (closed.1 is_open)
one_change_holds scene (Open cell) a b (inr (is_open, told)) (inl (closed, also)) = absurd (closed.1 is_open)
one_change_holds scene (Open cell) a b (inr (is_open, told)) (inr (open_too, also)) = told ∙ sym also
one_change_holds scene (Close cell) a b (inl (is_open, told)) (inl (open_too, also)) = told ∙ sym also
one_change_holds scene (Close cell) a b (inl (is_open, told)) (inr (closed, also)) = absurd (closed.1 is_open)
one_change_holds scene (Close cell) a b (inr (closed, told)) (inl (is_open, also)) = absurd (closed.1 is_open)
one_change_holds scene (Close cell) a b (inr (closed, told)) (inr (closed_too, also)) = told ∙ sym also

one_fault : (scene : SceneState) (edit : Edit) (a b : EditFault) → FaultOf scene edit a → FaultOf scene edit b → a ≡ b
one_fault scene edit a b first second =
    elim (one_fault_holds scene edit) [
      | inl allowed ↦ absurd (allowed a first)
      | inr (fault, told, one) ↦ one a first ∙ sym (one b second)
    ]

pub one_answer_holds : OneAnswer
one_answer_holds old new next edit (Ok a) (Ok b) first second full full_too =
    (ap Ok (one_change_holds old edit a b first.1 second.1), first.2 ∙ sym second.2)
one_answer_holds old new next edit (Ok a) (Err (Fault b)) first second full full_too = absurd (first.0 b second.0)
one_answer_holds old new next edit (Ok a) (Err OutOfMemory) first second full full_too = absurd (full_too refl)
one_answer_holds old new next edit (Err (Fault a)) (Ok b) first second full full_too = absurd (second.0 a first.0)
one_answer_holds old new next edit (Err (Fault a)) (Err (Fault b)) first second full full_too =
    (ap (λ f. Err (Fault f)) (one_fault old edit a b first.0 second.0), first.1 ∙ sym second.1)
one_answer_holds old new next edit (Err (Fault a)) (Err OutOfMemory) first second full full_too = absurd (full_too refl)
one_answer_holds old new next edit (Err OutOfMemory) other first second full full_too = absurd (full refl)

one_list_of_changes : (scene : SceneState) (edits : List Edit) (a b : List Change) → AreChanges scene edits a → AreChanges scene edits b → a ≡ b
one_list_of_changes scene [] [] [] first second = refl
one_list_of_changes scene [] [] (d ∷ b) first second = absurd second
one_list_of_changes scene [] (c ∷ a) b first second = absurd first
one_list_of_changes scene (edit ∷ later) [] b first second = absurd first
one_list_of_changes scene (edit ∷ later) (c ∷ a) [] first second = absurd second
one_list_of_changes scene (edit ∷ later) (c ∷ a) (d ∷ b) first second =
    ap (λ x. x ∷ a) (one_change_holds scene edit c d first.0 second.0) ∙ ap (λ (l : List Change). d ∷ l) (one_list_of_changes (edited scene edit) later a b first.1 second.1)

-- an edit before the end of edits that are all allowed is allowed
allowed_at : (scene : SceneState) (edits : List Edit) (end index : ℕ) (edit : Edit) → AreAllowed scene (take end edits) → index < end → slice_get edits index ≡ Some edit → IsAllowed (edited_all scene (take index edits)) edit
allowed_at scene [] end index edit allowed early there = absurd (none-some edit there)
allowed_at scene (first ∷ later) zero index edit allowed early there = absurd (omega arith)
allowed_at scene (first ∷ later) (suc end) zero edit allowed early there = subst (IsAllowed scene) (same_Some first edit there) allowed.0
allowed_at scene (first ∷ later) (suc end) (suc index) edit allowed early there = allowed_at (edited scene first) later end index edit allowed.1 (omega arith) there

-- nothing before the first fault is a fault
no_sooner : (scene : SceneState) (edits : List Edit) (i j : ℕ) (a b : EditFault) → IsFirstFault scene edits i a → IsFirstFault scene edits j b → i < j → ⊥
no_sooner scene edits i j a b first second less = allowed_at scene edits j i first.edit second.before less first.there a first.fault

pub not_both : (scene : SceneState) (edits : List Edit) (index : ℕ) (why : EditFault) → AreAllowed scene edits → IsFirstFault scene edits index why → ⊥
not_both scene edits index why allowed first =
    allowed_at scene edits (length edits) index first.edit (subst (AreAllowed scene) (sym (take-length edits)) allowed) (slice_get_within edits index first.edit first.there) first.there why first.fault

pub one_first_fault : (scene : SceneState) (edits : List Edit) (i j : ℕ) (a b : EditFault) → IsFirstFault scene edits i a → IsFirstFault scene edits j b → some_edit.Faulty i a ≡ some_edit.Faulty j b
one_first_fault scene edits i j a b first second =
    elim (cases_order i j) [
      | inl is ↦
          let there : slice_get edits i ≡ Some second.edit = subst (λ k. slice_get edits k ≡ Some second.edit) (sym is) second.there in
          let same : first.edit ≡ second.edit = same_Some first.edit second.edit (sym first.there ∙ there) in
          let fault : FaultOf (edited_all scene (take i edits)) first.edit b =
          subst (λ k. FaultOf (edited_all scene (take k edits)) first.edit b) (sym is) (subst (λ e. FaultOf (edited_all scene (take j edits)) e b) (sym same) second.fault) in
          ap (λ k. some_edit.Faulty k a) is ∙ ap (some_edit.Faulty j) (one_fault (edited_all scene (take i edits)) first.edit a b first.fault fault)
      | inr (inl less) ↦ absurd (no_sooner scene edits i j a b first second less)
      | inr (inr more) ↦ absurd (no_sooner scene edits j i b a second first more)
    ]

pub one_answer_to_all_holds : OneAnswerToAll
one_answer_to_all_holds old new next edits (Ok a) (Ok b) first second full full_too =
    (ap Ok (one_list_of_changes old edits a b first.1 second.1), first.2 ∙ sym second.2)
one_answer_to_all_holds old new next edits (Ok a) (Err (some_edit.Faulty j b)) first second full full_too = absurd (not_both old edits j b first.0 second.0)
one_answer_to_all_holds old new next edits (Ok a) (Err some_edit.OutOfMemory) first second full full_too = absurd (full_too refl)
one_answer_to_all_holds old new next edits (Err (some_edit.Faulty i a)) (Ok b) first second full full_too = absurd (not_both old edits i a second.0 first.0)
one_answer_to_all_holds old new next edits (Err (some_edit.Faulty i a)) (Err (some_edit.Faulty j b)) first second full full_too =
    (ap Err (one_first_fault old edits i j a b first.0 second.0), first.1 ∙ sym second.1)
one_answer_to_all_holds old new next edits (Err (some_edit.Faulty i a)) (Err some_edit.OutOfMemory) first second full full_too = absurd (full_too refl)
one_answer_to_all_holds old new next edits (Err some_edit.OutOfMemory) other first second full full_too = absurd (full refl)
