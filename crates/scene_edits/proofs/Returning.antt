-- Edits in order: what they keep, and that their changes, taken back, give the scene before them.
use Rattle.std.proofs.Common.{◌≡◌, [], ◌∷◌, refl, sym, ap, subst, ◌∙◌}
use Rattle.scene_edits.specs.Scene.{SceneState}
use Rattle.scene_edits.specs.Edited.{edited}
use Rattle.scene_edits.specs.Undone.{undone, IsUndoable}
use Rattle.scene_edits.specs.Laws.{AllEditsKeepScenes, EditsKeepSize, ChangesGoBack}
use Rattle.scene_edits.specs.declared.edits.Edit.{Edit}
use Rattle.scene_edits.specs.declared.edits.Edit.TheVariants.{Add, Drop, Goal, Path, Tail, Open, Close}
use Rattle.scene_edits.proofs.TakingBack.{goes_back}
use Rattle.scene_edits.proofs.KeptScenes.{edits_keep_scenes_holds}

pub all_edits_keep_scenes_holds : AllEditsKeepScenes
all_edits_keep_scenes_holds scene [] is_scene allowed = is_scene
all_edits_keep_scenes_holds scene (edit ∷ later) is_scene allowed = all_edits_keep_scenes_holds (edited scene edit) later (edits_keep_scenes_holds scene edit is_scene allowed.0) allowed.1

edit_keeps_size : (scene : SceneState) (edit : Edit) → ((edited scene edit).grid.size ≡ scene.grid.size) × ((edited scene edit).mode ≡ scene.mode)
edit_keeps_size scene (Add agent start goal) = (refl, refl)
edit_keeps_size scene (Drop agent) = (refl, refl)
edit_keeps_size scene (Goal agent goal) = (refl, refl)
edit_keeps_size scene (Path agent cells) = (refl, refl)
edit_keeps_size scene (Tail agent from cells) = (refl, refl)
edit_keeps_size scene (Open cell) = (refl, refl)
edit_keeps_size scene (Close cell) = (refl, refl)

pub edits_keep_size_holds : EditsKeepSize
edits_keep_size_holds scene [] = (refl, refl)
edits_keep_size_holds scene (edit ∷ later) =
    let first = edit_keeps_size scene edit in
    let rest = edits_keep_size_holds (edited scene edit) later in
    (rest.0 ∙ first.0, rest.1 ∙ first.1)

pub changes_go_back_holds : ChangesGoBack
changes_go_back_holds scene [] [] is_scene allowed are = (tt, refl)
changes_go_back_holds scene [] (change ∷ changes) is_scene allowed are = absurd are
changes_go_back_holds scene (edit ∷ later) [] is_scene allowed are = absurd are
changes_go_back_holds scene (edit ∷ later) (change ∷ changes) is_scene allowed are =
    let kept = edits_keep_scenes_holds scene edit is_scene allowed.0 in
    let (ready, same) = changes_go_back_holds (edited scene edit) later changes kept allowed.1 are.1 in
    let back = goes_back scene edit change is_scene allowed.0 are.0 in
    ((ready, subst (λ s. IsUndoable s change) (sym same) back.ready), ap (λ s. undone s change) same ∙ back.back)
