-- Changes one after the other.
use Rattle.std.proofs.Common.{◌≡◌, List, [], ◌∷◌, ◌++◌, Ok, refl, sym, subst}
use Rattle.scene_edits.specs.Scene.{SceneState, IsScene}
use Rattle.scene_edits.specs.Edited.{edited}
use Rattle.scene_edits.specs.Faults.{IsAllowed}
use Rattle.scene_edits.specs.Changes.{IsChange}
use Rattle.scene_edits.specs.InOrder.{edited_all, AreAllowed, AreChanges}
use Rattle.scene_edits.specs.Answers.{Applied}
use Rattle.scene_edits.specs.ChangedBy.{ChangedBy}
use Rattle.scene_edits.specs.declared.edits.Edit.{Edit}
use Rattle.scene_edits.specs.declared.changes.Change.{Change}
use Rattle.scene_edits.proofs.KeptScenes.{edits_keep_scenes_holds}

pub by_none : (scene : SceneState) → IsScene scene → ChangedBy scene [] scene
by_none scene is_scene = record { edits = []; is_scene = is_scene; allowed = tt; changed = tt; made = refl }

pub by_one : (old new : SceneState) (edit : Edit) (change : Change) → IsScene old → Applied old edit (Ok change) new → ChangedBy old (change ∷ []) new
by_one old new edit change is_scene (allowed, told, is) = record { edits = edit ∷ []; is_scene = is_scene; allowed = (allowed, tt); changed = (told, tt); made = is }

-- changes, and then those of a scene that they made
joined : (first third : SceneState) (edits : List Edit) (one two : List Change) → IsScene first → AreAllowed first edits → AreChanges first edits one → ChangedBy (edited_all first edits) two third → ChangedBy first (one ++ two) third
joined first third [] [] two is_scene allowed are later = later
joined first third [] (change ∷ one) two is_scene allowed are later = absurd are
joined first third (edit ∷ edits) [] two is_scene allowed are later = absurd are
joined first third (edit ∷ edits) (change ∷ one) two is_scene allowed are later =
    let kept = edits_keep_scenes_holds first edit is_scene allowed.0 in
    let rest = joined (edited first edit) third edits one two kept allowed.1 are.1 later in
    record { edits = edit ∷ rest.edits; is_scene = is_scene; allowed = (allowed.0, rest.allowed); changed = (are.0, rest.changed); made = rest.made }

pub by_both : (first second third : SceneState) (one two : List Change) → ChangedBy first one second → ChangedBy second two third → ChangedBy first (one ++ two) third
by_both first second third one two changed later = joined first third changed.edits one two changed.is_scene changed.allowed changed.changed (subst (λ (s : SceneState). ChangedBy s two third) changed.made later)

-- the last change, and the scene that those before it made
pub record LastOf (before : SceneState) (front : List Change) (change : Change) (scene : SceneState) : Type 0 where
  pub middle : SceneState
  pub edit : Edit
  pub earlier : ChangedBy before front middle
  pub is_scene : IsScene middle
  pub allowed : IsAllowed middle edit
  pub told : IsChange middle edit change
  pub made : scene ≡ edited middle edit

last_from : (before : SceneState) (edits : List Edit) (front : List Change) (change : Change) → IsScene before → AreAllowed before edits → AreChanges before edits (front ++ change ∷ []) → LastOf before front change (edited_all before edits)
last_from before [] [] change is_scene allowed are = absurd are
last_from before [] (first ∷ front) change is_scene allowed are = absurd are
last_from before (edit ∷ []) [] change is_scene allowed are = record { middle = before; edit = edit; earlier = by_none before is_scene; is_scene = is_scene; allowed = allowed.0; told = are.0; made = refl }
last_from before (edit ∷ next ∷ later) [] change is_scene allowed are = absurd are.1
last_from before (edit ∷ later) (first ∷ front) change is_scene allowed are =
    let kept = edits_keep_scenes_holds before edit is_scene allowed.0 in
    let rest = last_from (edited before edit) later front change kept allowed.1 are.1 in
    record {
      middle = rest.middle;
      edit = rest.edit;
      earlier = joined before rest.middle (edit ∷ []) (first ∷ []) front is_scene (allowed.0, tt) (are.0, tt) rest.earlier;
      is_scene = rest.is_scene;
      allowed = rest.allowed;
      told = rest.told;
      made = rest.made;
    }

pub last_of : (before scene : SceneState) (front : List Change) (change : Change) → ChangedBy before (front ++ change ∷ []) scene → LastOf before front change scene
last_of before scene front change changed = subst (LastOf before front change) (sym changed.made) (last_from before changed.edits front change changed.is_scene changed.allowed changed.changed)
