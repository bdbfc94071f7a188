-- Which edits are refused, and by which fault: the first one in the order of looking (this project's choice).
use Rattle.std.specs.Prelude.{◌≡◌, ◌≢◌, ℕ, ◌<◌, ◌≤◌, ◌⊎◌, None, List, [], ◌∷◌, length, slice_get}
use Rattle.grid_cells.specs.Cell.{Point}
use Rattle.plan_table.specs.Path.{last_index, IsFirstJump}
use Rattle.plan_table.specs.Plans.{row_of}
use Rattle.plan_table.specs.declared.paths.TheConstants.{MOST_LAST_INDEX}
use Rattle.scene_edits.specs.Scene.{SceneState, AreIn, IsLive, plan_of, start_of}
use Rattle.scene_edits.specs.Edited.{continued}
use Rattle.scene_edits.specs.declared.scenes.TheConstants.{MOST_AGENTS}
use Rattle.scene_edits.specs.declared.edits.Edit.{Edit}
use Rattle.scene_edits.specs.declared.edits.Edit.TheVariants.{Add, Drop, Goal, Path, Tail, Open, Close}
use Rattle.scene_edits.specs.declared.edits.EditFault.{EditFault}
use Rattle.scene_edits.specs.declared.edits.EditFault.TheVariants.{UnknownAgent, AgentTaken, TooManyAgents, OutOfMap, EmptyPath, NotFromStart, NoSuchTime, NotAStep, TooLong}

infix 4 ◌when◌
infixr 3 ◌otherwise◌
-- that fault, where the fact holds
abbrev pub ◌when◌ : EditFault → Type 0 → EditFault → Type 0
◌when◌ fault P told = (told ≡ fault) × P

-- a fault of the first, and one of the second where the first has none
abbrev pub ◌otherwise◌ : (EditFault → Type 0) → (EditFault → Type 0) → EditFault → Type 0
◌otherwise◌ first second told = first told ⊎ (((fault : EditFault) → first fault → ⊥) × second told)

-- the agent has no row
abbrev pub unknown : SceneState → ℕ → EditFault → Type 0
unknown scene agent = UnknownAgent when (row_of scene.rows agent ≡ None)

-- a cell of the edit isn't on the map
abbrev pub outside : SceneState → List Point → EditFault → Type 0
outside scene cells = OutOfMap when (AreIn scene.grid.size cells → ⊥)

-- the list has too many cells, its trailing waits counted
abbrev pub too_long : List Point → EditFault → Type 0
too_long cells = TooLong when (MOST_LAST_INDEX < last_index cells)

-- a cell is no step from the one before; the first such is told
abbrev pub jump : List Point → EditFault → Type 0
jump cells told = (at : ℕ) × (told ≡ NotAStep at) × IsFirstJump cells at

-- the fault of an edit, if it has one
abbrev pub FaultOf : SceneState → Edit → EditFault → Type 0
FaultOf scene (Add agent start goal) =
    (AgentTaken when IsLive scene agent)
    otherwise (TooManyAgents when (MOST_AGENTS ≤ length scene.rows))
    otherwise outside scene (start ∷ goal ∷ [])
FaultOf scene (Drop agent) = unknown scene agent
FaultOf scene (Goal agent goal) = unknown scene agent otherwise outside scene (goal ∷ [])
FaultOf scene (Path agent cells) =
    unknown scene agent
    otherwise outside scene cells
    otherwise (EmptyPath when (cells ≡ []))
    otherwise (NotFromStart when (slice_get cells 0 ≢ start_of scene agent))
    otherwise too_long cells
    otherwise jump cells
FaultOf scene (Tail agent from cells) =
    unknown scene agent
    otherwise outside scene cells
    otherwise (NoSuchTime when (last_index (plan_of scene agent) < from))
    otherwise too_long (continued (plan_of scene agent) from cells)
    otherwise jump (continued (plan_of scene agent) from cells)
FaultOf scene (Open cell) = outside scene (cell ∷ [])
FaultOf scene (Close cell) = outside scene (cell ∷ [])

-- the edit has no fault
abbrev pub IsAllowed : SceneState → Edit → Type 0
IsAllowed scene edit = (fault : EditFault) → FaultOf scene edit fault → ⊥
