-- Scenes and what edits made of them (this project's choice of words).
use Rattle.std.specs.Prelude.{◌≡◌, List}
use Rattle.scene_edits.specs.Scene.{SceneState, IsScene}
use Rattle.scene_edits.specs.InOrder.{edited_all, AreAllowed, AreChanges}
use Rattle.scene_edits.specs.declared.edits.Edit.{Edit}
use Rattle.scene_edits.specs.declared.changes.Change.{Change}

-- edits made the one scene of the other, and those are their changes
pub record ChangedBy (before : SceneState) (changes : List Change) (scene : SceneState) : Type 0 where
  pub edits : List Edit
  pub is_scene : IsScene before
  pub allowed : AreAllowed before edits
  pub changed : AreChanges before edits changes
  pub made : scene ≡ edited_all before edits

-- the relation holds of each scene and the one that edits with those changes make of it
abbrev pub HoldsOver : List Change → (SceneState → SceneState → Type 0) → Type 0
HoldsOver changes R = (before : SceneState) (edits : List Edit) → IsScene before → AreAllowed before edits → AreChanges before edits changes → R before (edited_all before edits)
