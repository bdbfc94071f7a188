-- What is answered to edits, and the scene that they leave.
use Rattle.std.specs.Prelude.{◌≡◌, ℕ, Result, Ok, Err, List}
use Rattle.scene_edits.specs.Scene.{SceneState}
use Rattle.scene_edits.specs.Edited.{edited}
use Rattle.scene_edits.specs.Faults.{FaultOf, IsAllowed}
use Rattle.scene_edits.specs.Changes.{IsChange}
use Rattle.scene_edits.specs.InOrder.{edited_all, AreAllowed, AreChanges, IsFirstFault}
use Rattle.scene_edits.specs.declared.edits.Edit.{Edit}
use Rattle.scene_edits.specs.declared.edits.Edit.TheVariants.{Add, Drop, Goal, Path, Tail, Open, Close}
use Rattle.scene_edits.specs.declared.changes.Change.{Change}
use Rattle.scene_edits.specs.declared.edits.ApplyFault.{ApplyFault}
use Rattle.scene_edits.specs.declared.edits.ApplyFault.TheVariants.{Fault, OutOfMemory}
use Rattle.scene_edits.specs.declared.edits.EditsFault as edits_fault
use Rattle.scene_edits.specs.declared.edits.EditsFault.TheVariants as some_edit

-- the edit makes a plan, for which it asks for memory
abbrev pub MakesPlan : Edit → Type 0
MakesPlan (Add agent start goal) = Unit {0}
MakesPlan (Drop agent) = ⊥
MakesPlan (Goal agent goal) = ⊥
MakesPlan (Path agent cells) = Unit {0}
MakesPlan (Tail agent from cells) = Unit {0}
MakesPlan (Open cell) = ⊥
MakesPlan (Close cell) = ⊥

-- one edit: its change and the edited scene, or its fault and the scene as it was; want of memory may come in place of
-- either, where the edit makes a plan
abbrev pub Applied : SceneState → Edit → Result Change ApplyFault → SceneState → Type 0
Applied old edit (Ok change) new = IsAllowed old edit × IsChange old edit change × (new ≡ edited old edit)
Applied old edit (Err (Fault fault)) new = FaultOf old edit fault × (new ≡ old)
Applied old edit (Err OutOfMemory) new = MakesPlan edit × (new ≡ old)

-- edits in order: all of them, or the first fault and the scene as it was; want of memory may come in place of either,
-- whatever the edits are, since the list of their changes is made first
abbrev pub AllApplied : SceneState → List Edit → Result (List Change) edits_fault.EditsFault → SceneState → Type 0
AllApplied old edits (Ok changes) new = AreAllowed old edits × AreChanges old edits changes × (new ≡ edited_all old edits)
AllApplied old edits (Err (some_edit.Faulty index why)) new = IsFirstFault old edits index why × (new ≡ old)
AllApplied old edits (Err some_edit.OutOfMemory) new = new ≡ old

-- a fault of the edit at an index
abbrev pub fault_at : ℕ → ApplyFault → edits_fault.EditsFault
fault_at index (Fault why) = some_edit.Faulty index why
fault_at index OutOfMemory = some_edit.OutOfMemory
