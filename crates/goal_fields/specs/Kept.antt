-- How the fields of the goals that are held are kept.
use Rattle.std.specs.Prelude.{◌≡◌, ℕ, ◌<◌, List, All, map}
use Rattle.grid_cells.specs.declared.sizes.TheConstants.{MOST_SIDE}
use Rattle.goal_fields.specs.Target.{Standing, IsSound}
use Rattle.goal_fields.specs.Held.{rank_of, IsRising}

-- the rank of a field's goal
abbrev pub goal_rank : Standing → ℕ
goal_rank field = rank_of field.goal

-- the ranks of their goals stand beside the fields, and rise
pub record IsKept (ranks : List ℕ) (fields : List Standing) : Type 0 where
  pub ranked : ranks ≡ map goal_rank fields
  pub rising : IsRising ranks
  pub sound : All IsSound fields
  pub bounded : All (λ field. (field.goal.x < MOST_SIDE) × (field.goal.y < MOST_SIDE)) fields
