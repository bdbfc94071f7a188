-- Taking changes back.
use Rattle.std.specs.Prelude.{◌≡◌, false, None, List, [], ◌∷◌, not}
use Rattle.grid_cells.specs.Size.{Holds}
use Rattle.grid_cells.specs.Grid.{flag_index, with_cell}
use Rattle.std.specs.List.{slice_index_or}
use Rattle.plan_table.specs.Plans.{row_of}
use Rattle.scene_edits.specs.Scene.{SceneState, IsLive}
use Rattle.scene_edits.specs.Edited.{with_row, without_row, with_changed}
use Rattle.scene_edits.specs.declared.changes.Change.{Change}
use Rattle.scene_edits.specs.declared.changes.Change.TheVariants.{Added, Dropped, Aimed, Moved, Flipped, Same}

-- the scene before a change
abbrev pub undone : SceneState → Change → SceneState
undone scene (Added agent) = record scene { rows = without_row scene.rows agent }
undone scene (Dropped agent row) = record scene { rows = with_row scene.rows agent row }
undone scene (Aimed agent goal) = record scene { rows = with_changed scene.rows agent (λ row. record row { goal = goal }) }
undone scene (Moved agent plan since) = record scene { rows = with_changed scene.rows agent (λ row. record row { plan = plan }) }
undone scene (Flipped cell) = record scene { grid = with_cell scene.grid cell (not (slice_index_or scene.grid.flags (flag_index scene.grid.size cell) false)) }
undone scene (Same cell) = scene

-- the scene can be one after the change
abbrev pub IsUndoable : SceneState → Change → Type 0
IsUndoable scene (Added agent) = IsLive scene agent
IsUndoable scene (Dropped agent row) = row_of scene.rows agent ≡ None
IsUndoable scene (Aimed agent goal) = IsLive scene agent
IsUndoable scene (Moved agent plan since) = IsLive scene agent
IsUndoable scene (Flipped cell) = Holds scene.grid.size cell
IsUndoable scene (Same cell) = Unit {0}

-- the scene before the changes, the last one taken back first
abbrev pub undone_all : SceneState → List Change → SceneState
undone_all scene [] = scene
undone_all scene (change ∷ later) = undone (undone_all scene later) change

abbrev pub AreUndoable : SceneState → List Change → Type 0
AreUndoable scene [] = Unit {0}
AreUndoable scene (change ∷ later) = AreUndoable scene later × IsUndoable (undone_all scene later) change
