-- What an edit that is accepted changes in a scene.
use Rattle.std.specs.Prelude.{◌≡◌, ℕ, ◌⊎◌, Option, Some, IsSomeAnd}
use Rattle.grid_cells.specs.Grid.{IsOpen, IsClosed}
use Rattle.plan_table.specs.Plans.{row_of}
use Rattle.plan_table.specs.Route.{route_in}
use Rattle.plan_table.specs.declared.plans.Row.{Row}
use Rattle.scene_edits.specs.Scene.{SceneState}
use Rattle.scene_edits.specs.Edited.{edited}
use Rattle.scene_edits.specs.Since.{IsSince}
use Rattle.scene_edits.specs.declared.edits.Edit.{Edit}
use Rattle.scene_edits.specs.declared.edits.Edit.TheVariants.{Add, Drop, Goal, Path, Tail, Open, Close}
use Rattle.scene_edits.specs.declared.changes.Change.{Change}
use Rattle.scene_edits.specs.declared.changes.Change.TheVariants.{Added, Dropped, Aimed, Moved, Flipped, Same}

-- the agent's plan before, and when its track after is first elsewhere than its track before
pub record IsMove (old new : SceneState) (agent : ℕ) (change : Change) : Type 0 where
  pub before : Row
  pub after : Row
  pub was : row_of old.rows agent ≡ Some before
  pub is : row_of new.rows agent ≡ Some after
  pub since : Option ℕ
  pub first : IsSince (route_in old.mode before) (route_in new.mode after) since
  pub told : change ≡ Moved agent before.plan since

-- the change that an edit makes, if it is allowed
abbrev pub IsChange : SceneState → Edit → Change → Type 0
IsChange old (Add agent start goal) change = change ≡ Added agent
IsChange old (Drop agent) change = IsSomeAnd (row_of old.rows agent) (λ row. change ≡ Dropped agent row)
IsChange old (Goal agent goal) change = IsSomeAnd (row_of old.rows agent) (λ row. change ≡ Aimed agent row.goal)
IsChange old (Path agent cells) change = IsMove old (edited old (Path agent cells)) agent change
IsChange old (Tail agent from cells) change = IsMove old (edited old (Tail agent from cells)) agent change
IsChange old (Open cell) change = (IsClosed old.grid cell × (change ≡ Flipped cell)) ⊎ (IsOpen old.grid cell × (change ≡ Same cell))
IsChange old (Close cell) change = (IsOpen old.grid cell × (change ≡ Flipped cell)) ⊎ (IsClosed old.grid cell × (change ≡ Same cell))
