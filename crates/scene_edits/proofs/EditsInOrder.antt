-- Edits in order: one more of them, and all taken back.
use Rattle.std.proofs.Common.{◌≡◌, ℕ, ◌+◌, ◌≤◌, List, [], ◌∷◌, ◌++◌, take, Ok, Err, Some, refl, sym, ap, subst, ◌∙◌, arith}
use Rattle.std.specs.List.{slice_get}
use Rattle.std.proofs.lemmas.Grind.{common_steps}
use Rattle.std.proofs.lemmas.Option.{get_or_from_slice_get, slice_get_within}
use Rattle.scene_edits.specs.Scene.{SceneState, IsScene}
use Rattle.scene_edits.specs.Edited.{edited}
use Rattle.scene_edits.specs.Faults.{FaultOf, IsAllowed}
use Rattle.scene_edits.specs.Changes.{IsChange}
use Rattle.scene_edits.specs.InOrder.{edited_all, AreAllowed, AreChanges, IsFirstFault}
use Rattle.scene_edits.specs.Answers.{Applied, AllApplied, fault_at}
use Rattle.scene_edits.specs.Board.{room_left, KeepsRoom}
use Rattle.scene_edits.specs.Undone.{undone, undone_all, IsUndoable, AreUndoable}
use Rattle.scene_edits.specs.declared.edits.Edit.{Edit}
use Rattle.scene_edits.specs.declared.edits.EditFault.{EditFault}
use Rattle.scene_edits.specs.declared.edits.ApplyFault.{ApplyFault}
use Rattle.scene_edits.specs.declared.edits.ApplyFault.TheVariants.{Fault, OutOfMemory}
use Rattle.scene_edits.specs.declared.changes.Change.{Change}
use Rattle.scene_edits.proofs.TakingBack.{goes_back}
use Rattle.scene_edits.proofs.KeptScenes.{edits_keep_scenes_holds}
use Rattle.scene_edits.proofs.ManyBack.{undone_all-push, are_undoable-push, room_left-push, room_after-more}

pub edited_all-push : (scene : SceneState) (edits : List Edit) (edit : Edit) → edited_all scene (edits ++ edit ∷ []) ≡ edited (edited_all scene edits) edit
edited_all-push scene [] edit = refl
edited_all-push scene (first ∷ later) edit = edited_all-push (edited scene first) later edit

pub are_allowed-push : (scene : SceneState) (edits : List Edit) (edit : Edit) → AreAllowed scene edits → IsAllowed (edited_all scene edits) edit → AreAllowed scene (edits ++ edit ∷ [])
are_allowed-push scene [] edit allowed next = (next, tt)
are_allowed-push scene (first ∷ later) edit allowed next = (allowed.0, are_allowed-push (edited scene first) later edit allowed.1 next)

pub are_changes-push : (scene : SceneState) (edits : List Edit) (changes : List Change) (edit : Edit) (change : Change) → AreChanges scene edits changes → IsChange (edited_all scene edits) edit change → AreChanges scene (edits ++ edit ∷ []) (changes ++ change ∷ [])
are_changes-push scene [] [] edit change are next = (next, tt)
are_changes-push scene [] (c ∷ changes) edit change are next = absurd are
are_changes-push scene (first ∷ later) [] edit change are next = absurd are
are_changes-push scene (first ∷ later) (c ∷ changes) edit change are next = (are.0, are_changes-push (edited scene first) later changes edit change are.1 next)

-- the scene after the edits, with what takes them back
pub record Underway (start : SceneState) (edits : List Edit) (done : List Change) (scene : SceneState) (room : ℕ) : Type 0 where
  pub is_scene : IsScene scene
  pub allowed : AreAllowed start edits
  pub changes : AreChanges start edits done
  pub now : scene ≡ edited_all start edits
  pub back : undone_all scene done ≡ start
  pub ready : AreUndoable scene done
  pub enough : room_left done ≤ room

pub underway-more : (start : SceneState) (edits : List Edit) (done : List Change) (scene next : SceneState) (room left : ℕ) (edit : Edit) (change : Change) → Underway start edits done scene room → Applied scene edit (Ok change) next → KeepsRoom room (Ok change) left → Underway start (edits ++ edit ∷ []) (done ++ change ∷ []) next left
underway-more start edits done scene next room left edit change way (allowed, is_change, is) keeps =
    let back = goes_back scene edit change way.is_scene allowed is_change in
    let undoes : undone next change ≡ scene = ap (λ s. undone s change) is ∙ back.back in
    record {
      is_scene = subst IsScene (sym is) (edits_keep_scenes_holds scene edit way.is_scene allowed);
      allowed = are_allowed-push start edits edit way.allowed (subst (λ s. IsAllowed s edit) way.now allowed);
      changes = are_changes-push start edits done edit change way.changes (subst (λ s. IsChange s edit change) way.now is_change);
      now = is ∙ ap (λ s. edited s edit) way.now ∙ sym (edited_all-push start edits edit);
      back = undone_all-push next done change ∙ ap (λ s. undone_all s done) undoes ∙ way.back;
      ready = are_undoable-push next done change (subst (λ s. IsUndoable s change) (sym is) back.ready) (subst (λ s. AreUndoable s done) (sym undoes) way.ready);
      enough = omega (arith, room_left-push done change, room_after-more (room_left done) room change way.enough, keeps);
    }

pub take-next : {X : Type 0} (xs : List X) (n : ℕ) (x : X) → slice_get xs n ≡ Some x → take (n + 1) xs ≡ take n xs ++ x ∷ []
take-next xs n x there = grind (arith, common_steps, get_or_from_slice_get xs n x x there, slice_get_within xs n x there)

-- the first edit with a fault
pub first_fault : (start : SceneState) (edits : List Edit) (done : List Change) (scene : SceneState) (room index : ℕ) (edit : Edit) (why : EditFault) → Underway start (take index edits) done scene room → slice_get edits index ≡ Some edit → FaultOf scene edit why → IsFirstFault start edits index why
first_fault start edits done scene room index edit why way there fault = record { edit = edit; there = there; before = way.allowed; fault = subst (λ s. FaultOf s edit why) way.now fault }

-- a refusal after which all is taken back
pub all_refused : (start scene same new : SceneState) (edits : List Edit) (done : List Change) (room index : ℕ) (edit : Edit) (fault : ApplyFault) → Underway start (take index edits) done scene room → slice_get edits index ≡ Some edit → Applied scene edit (Err fault) same → new ≡ undone_all same done → AllApplied start edits (Err (fault_at index fault)) new
all_refused start scene same new edits done room index edit (Fault why) way there (fault, is) undoes =
    (first_fault start edits done scene room index edit why way there fault, undoes ∙ ap (λ s. undone_all s done) is ∙ way.back)
all_refused start scene same new edits done room index edit OutOfMemory way there (makes, is) undoes = undoes ∙ ap (λ s. undone_all s done) is ∙ way.back
