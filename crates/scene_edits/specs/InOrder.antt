-- Several edits in order.
use Rattle.std.specs.Prelude.{◌≡◌, ℕ, Some, List, [], ◌∷◌, take, slice_get}
use Rattle.scene_edits.specs.Scene.{SceneState}
use Rattle.scene_edits.specs.Edited.{edited}
use Rattle.scene_edits.specs.Faults.{FaultOf, IsAllowed}
use Rattle.scene_edits.specs.Changes.{IsChange}
use Rattle.scene_edits.specs.declared.edits.Edit.{Edit}
use Rattle.scene_edits.specs.declared.edits.EditFault.{EditFault}
use Rattle.scene_edits.specs.declared.changes.Change.{Change}

-- the scene after the edits
abbrev pub edited_all : SceneState → List Edit → SceneState
edited_all scene [] = scene
edited_all scene (edit ∷ later) = edited_all (edited scene edit) later

-- each edit is allowed in the scene that those before it make
abbrev pub AreAllowed : SceneState → List Edit → Type 0
AreAllowed scene [] = Unit {0}
AreAllowed scene (edit ∷ later) = IsAllowed scene edit × AreAllowed (edited scene edit) later

-- one change for each edit, in the order of the edits
abbrev pub AreChanges : SceneState → List Edit → List Change → Type 0
AreChanges scene [] [] = Unit {0}
AreChanges scene [] (change ∷ changes) = ⊥
AreChanges scene (edit ∷ later) [] = ⊥
AreChanges scene (edit ∷ later) (change ∷ changes) = IsChange scene edit change × AreChanges (edited scene edit) later changes

-- the first edit with a fault: its index from 0, and its fault
pub record IsFirstFault (scene : SceneState) (edits : List Edit) (index : ℕ) (why : EditFault) : Type 0 where
  pub edit : Edit
  pub there : slice_get edits index ≡ Some edit
  pub before : AreAllowed scene (take index edits)
  pub fault : FaultOf (edited_all scene (take index edits)) edit why
