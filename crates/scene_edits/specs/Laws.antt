-- What holds of all scenes and edits.
use Rattle.std.specs.Prelude.{◌≡◌, ◌≢◌, ◌⊎◌, List, Result, Err}
use Rattle.grid_cells.specs.Cell.{Point}
use Rattle.plan_table.specs.Path.{IsWalkable, IsPathOf}
use Rattle.scene_edits.specs.Scene.{SceneState, IsScene}
use Rattle.scene_edits.specs.Paths.{path_of}
use Rattle.scene_edits.specs.Edited.{edited}
use Rattle.scene_edits.specs.Faults.{FaultOf, IsAllowed}
use Rattle.scene_edits.specs.Changes.{IsChange}
use Rattle.scene_edits.specs.InOrder.{edited_all, AreAllowed, AreChanges}
use Rattle.scene_edits.specs.Undone.{undone_all, AreUndoable}
use Rattle.scene_edits.specs.Answers.{Applied, AllApplied}
use Rattle.scene_edits.specs.declared.edits.ApplyFault.{ApplyFault}
use Rattle.scene_edits.specs.declared.edits.ApplyFault.TheVariants.{OutOfMemory}
use Rattle.scene_edits.specs.declared.edits.EditsFault as edits_fault
use Rattle.scene_edits.specs.declared.edits.EditsFault.TheVariants as some_edit
use Rattle.scene_edits.specs.declared.edits.Edit.{Edit}
use Rattle.scene_edits.specs.declared.edits.EditFault.{EditFault}
use Rattle.scene_edits.specs.declared.changes.Change.{Change}

-- the cells that an agent can follow have one path, and it is those cells without the waits at their end
abbrev pub OnePath : Type 0
OnePath = (cells : List Point) → IsWalkable cells → IsPathOf cells (path_of cells) × ((path : List Point) → IsPathOf cells path → path ≡ path_of cells)

-- an edit is allowed or has exactly one fault
abbrev pub OneFaultOrNone : Type 0
OneFaultOrNone = (scene : SceneState) (edit : Edit) → IsAllowed scene edit ⊎ ((fault : EditFault) × FaultOf scene edit fault × ((other : EditFault) → FaultOf scene edit other → other ≡ fault))

-- an edit makes one change at most
abbrev pub OneChange : Type 0
OneChange = (scene : SceneState) (edit : Edit) (change other : Change) → IsChange scene edit change → IsChange scene edit other → change ≡ other

-- an edit that is allowed makes a scene of a scene
abbrev pub EditsKeepScenes : Type 0
EditsKeepScenes = (scene : SceneState) (edit : Edit) → IsScene scene → IsAllowed scene edit → IsScene (edited scene edit)

-- edits in order that are allowed make a scene of a scene
abbrev pub AllEditsKeepScenes : Type 0
AllEditsKeepScenes = (scene : SceneState) (edits : List Edit) → IsScene scene → AreAllowed scene edits → IsScene (edited_all scene edits)

-- edits keep the size of the map, and the mode
abbrev pub EditsKeepSize : Type 0
EditsKeepSize = (scene : SceneState) (edits : List Edit) → ((edited_all scene edits).grid.size ≡ scene.grid.size) × ((edited_all scene edits).mode ≡ scene.mode)

-- the changes of edits can be taken back, the last one first, and that gives the scene before the edits
abbrev pub ChangesGoBack : Type 0
ChangesGoBack = (scene : SceneState) (edits : List Edit) (changes : List Change) → IsScene scene → AreAllowed scene edits → AreChanges scene edits changes → AreUndoable (edited_all scene edits) changes × (undone_all (edited_all scene edits) changes ≡ scene)

-- besides want of memory an edit has one answer at most, and so has the scene that it leaves
abbrev pub OneAnswer : Type 0
OneAnswer = (old new next : SceneState) (edit : Edit) (result other : Result Change ApplyFault) → Applied old edit result new → Applied old edit other next → result ≢ Err OutOfMemory → other ≢ Err OutOfMemory → (result ≡ other) × (new ≡ next)

-- the same of edits in order
abbrev pub OneAnswerToAll : Type 0
OneAnswerToAll = (old new next : SceneState) (edits : List Edit) (result other : Result (List Change) edits_fault.EditsFault) → AllApplied old edits result new → AllApplied old edits other next → result ≢ Err some_edit.OutOfMemory → other ≢ Err some_edit.OutOfMemory → (result ≡ other) × (new ≡ next)
