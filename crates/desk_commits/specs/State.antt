-- The state of a desk, and what accepted entries make of it.
use Rattle.std.specs.Prelude.{ℕ, List, [], ◌∷◌, ◌++◌, length, take}
use Rattle.scene_edits.specs.Scene.{SceneState}
use Rattle.scene_edits.specs.InOrder.{edited_all}
use Rattle.desk_commits.specs.Entries.{Entry}

-- a desk: the scene that it was opened on, its scene, the entries that made the one of the other, in order, and how many entries there may be
pub record DeskState : Type 0 where
  pub start : SceneState
  pub scene : SceneState
  pub journal : List Entry
  pub limit : ℕ

-- a desk at its opening
abbrev pub opening : SceneState → ℕ → DeskState
opening scene limit = record { start = scene; scene = scene; journal = []; limit = limit }

-- how many entries the desk has accepted
abbrev pub version_of : DeskState → ℕ
version_of desk = length desk.journal

-- the desk after one more entry
abbrev pub grown : DeskState → Entry → DeskState
grown desk entry = record { start = desk.start; scene = edited_all desk.scene entry.edits; journal = desk.journal ++ entry ∷ []; limit = desk.limit }

-- the scene after entries: the edits of each, in order
abbrev pub scene_after : SceneState → List Entry → SceneState
scene_after scene [] = scene
scene_after scene (entry ∷ later) = scene_after (edited_all scene entry.edits) later

-- the desk after entries
abbrev pub after : DeskState → List Entry → DeskState
after desk [] = desk
after desk (entry ∷ later) = after (grown desk entry) later

-- the desk as it was at a version: its scene is made by so many of its entries, of the scene that it was opened on
abbrev pub earlier : DeskState → ℕ → DeskState
earlier desk version = record { start = desk.start; scene = scene_after desk.start (take version desk.journal); journal = take version desk.journal; limit = desk.limit }
