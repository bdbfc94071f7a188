-- The pieces of an audit, in the order of the agents, and the shares of its index, in that of their numbers (this project's choice).
use Rattle.std.specs.Prelude.{◌≡◌, ℕ, ◌+◌, ◌≤◌, List, [], ◌∷◌, length}
use Rattle.scene_edits.specs.Scene.{SceneState}
use Rattle.plan_table.specs.Route.{tracks_of}
use Rattle.desk_audit.specs.Index.{AreShares, share_of}
use Rattle.desk_audit.specs.Parts.{IsPart}
use Rattle.desk_audit.specs.declared.indexing.Sought.{Sought}
use Rattle.desk_audit.specs.declared.parts.Part.{Part}
use Rattle.desk_audit.specs.declared.sightings.Sightings.{Sightings}
use Rattle.desk_audit.specs.declared.threads.Piece.{Piece}

-- the pieces are of this scene, and go from one rank to another with no gap
abbrev pub Tiles : SceneState → ℕ → List Piece → ℕ → Type 0
Tiles scene from [] to = from ≡ to
Tiles scene from (p ∷ ps) to = (p.scene.now ≡ scene) × (p.from ≡ from) × (from ≤ p.to) × Tiles scene p.to ps to

-- the part that the pieces make together, where they begin with the first agent
abbrev pub IsOfPieces : SceneState → List Piece → Part → Type 0
IsOfPieces scene pieces whole = (end : ℕ) → Tiles scene 0 pieces end → IsPart scene.grid scene.mode scene.rows 0 end whole

-- the shares that are sought are of this scene and of so many, and have the numbers from one on and before another
abbrev pub Counts : SceneState → ℕ → ℕ → List Sought → ℕ → Type 0
Counts scene many from [] to = from ≡ to
Counts scene many from (s ∷ ss) to = (s.scene.now ≡ scene) × (s.share ≡ share_of many from) × Counts scene many (from + 1) ss to

-- the shares that the threads answer, where those that are sought begin with the first
abbrev pub IsOfShares : SceneState → ℕ → List Sought → List Sightings → Type 0
IsOfShares scene many sought index = (end : ℕ) → Counts scene many 0 sought end → (length index ≡ end) × AreShares (tracks_of scene.mode scene.rows) many index
