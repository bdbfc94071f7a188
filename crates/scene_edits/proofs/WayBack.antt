-- The way back from the scene that changes made.
use Rattle.std.proofs.Common.{◌≡◌, List, [], ◌∷◌, ◌++◌, Ok, sym, ap, subst, ◌∙◌}
use Rattle.scene_edits.specs.Scene.{SceneState, IsScene}
use Rattle.scene_edits.specs.Edited.{edited}
use Rattle.scene_edits.specs.Answers.{AllApplied}
use Rattle.scene_edits.specs.ChangedBy.{ChangedBy}
use Rattle.scene_edits.specs.Undone.{undone, undone_all, AreUndoable}
use Rattle.scene_edits.specs.Reverted.{IsTurn}
use Rattle.scene_edits.specs.declared.edits.Edit.{Edit}
use Rattle.scene_edits.specs.declared.changes.Change.{Change}
use Rattle.scene_edits.proofs.TakingBack.{goes_back}
use Rattle.scene_edits.proofs.Returning.{all_edits_keep_scenes_holds, changes_go_back_holds}
use Rattle.scene_edits.proofs.JoinedChanges.{LastOf, last_of}
use Rattle.scene_edits.proofs.Turning.{turns}

pub applied_by : (old new : SceneState) (edits : List Edit) (changes : List Change) → IsScene old → AllApplied old edits (Ok changes) new → ChangedBy old changes new
applied_by old new edits changes is_scene (allowed, are, is) = record { edits = edits; is_scene = is_scene; allowed = allowed; changed = are; made = is }

pub made_scene : (before scene : SceneState) (changes : List Change) → ChangedBy before changes scene → IsScene scene
made_scene before scene changes changed = subst IsScene (sym changed.made) (all_edits_keep_scenes_holds before changed.edits changed.is_scene changed.allowed)

pub all_go_back : (before scene : SceneState) (changes : List Change) → ChangedBy before changes scene → AreUndoable scene changes × (undone_all scene changes ≡ before)
all_go_back before scene changes changed = subst (λ (s : SceneState). AreUndoable s changes × (undone_all s changes ≡ before)) (sym changed.made) (changes_go_back_holds before changed.edits changes changed.is_scene changed.allowed changed.changed)

module _ (before scene : SceneState) (front : List Change) (change : Change) (changed : ChangedBy before (front ++ change ∷ []) scene) where
  last : LastOf before front change scene
  last = last_of before scene front change changed

  undoes : undone scene change ≡ last.middle
  undoes = ap (λ (s : SceneState). undone s change) last.made ∙ (goes_back last.middle last.edit change last.is_scene last.allowed last.told).back

  -- the last change taken back leaves those before it
  pub front_left : ChangedBy before front (undone scene change)
  front_left = subst (ChangedBy before front) (sym undoes) last.earlier

  -- and it is changes in its turn
  pub turn_changes : (turn : List Change) → IsTurn scene change turn → ChangedBy scene turn (undone scene change)
  turn_changes turn is =
      let there : IsTurn (edited last.middle last.edit) change turn = subst (λ (s : SceneState). IsTurn s change turn) last.made is in
      let turned : ChangedBy (edited last.middle last.edit) turn last.middle = turns last.middle last.edit change turn last.is_scene last.allowed last.told there in
      subst (ChangedBy scene turn) (sym undoes) (subst (λ (s : SceneState). ChangedBy s turn last.middle) (sym last.made) turned)
