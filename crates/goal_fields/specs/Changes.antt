-- The change count of a repair (this project's choice, after Koenig, Likhachev, Furcy 2004: how often Lifelong Planning A*
-- takes a cell).
use Rattle.std.specs.Prelude.{◌≡◌, ℕ, ◌+◌, ◌==◌, nat_lt, if◌then◌else◌, Bool, true, false, Option, Some, None, List, length, count_by, slice_index_or}
use Rattle.std.specs.List.{zip}
use Rattle.grid_cells.specs.Cell.{Point}
use Rattle.grid_cells.specs.Size.{Holds}
use Rattle.grid_cells.specs.Grid.{Chart, flag_index}
use Rattle.grid_cells.specs.Walks.{IsDistance}
use Rattle.cell_queue.specs.Queue.{area}
use Rattle.goal_fields.specs.Target.{Standing, IsSound, HaveCounted}

-- the old distance is given, and the new one is greater or none
abbrev pub has_grown : Option ℕ × Option ℕ → Bool
has_grown (None, new) = false
has_grown (Some old, None) = true
has_grown (Some old, Some new) = nat_lt old new

-- the new distance is given, and differs from the old one
abbrev pub came : Option ℕ × Option ℕ → Bool
came (old, None) = false
came (None, Some new) = true
came (Some old, Some new) = if old == new then false else true

-- the number of cells whose distance has_grown or went, plus the number of cells with a new distance
abbrev pub change_count : List (Option ℕ) → List (Option ℕ) → ℕ
change_count olds news = count_by has_grown (zip olds news) + count_by came (zip olds news)

-- the list has the distance of each cell of the map to the goal, row by row
pub record AreDistances (grid : Chart) (goal : Point) (distances : List (Option ℕ)) : Type 0 where
  pub one_each : length distances ≡ area grid.size
  pub right : (cell : Point) → Holds grid.size cell → IsDistance grid cell goal (slice_index_or distances (flag_index grid.size cell) None)

-- the change count between two grids and a goal
pub record IsChangeCount (before after : Chart) (goal : Point) (count : ℕ) : Type 0 where
  pub olds : List (Option ℕ)
  pub news : List (Option ℕ)
  pub old_distances : AreDistances before goal olds
  pub new_distances : AreDistances after goal news
  pub counted : count ≡ change_count olds news

-- a field before and after a repair for a grid
pub record IsRepaired (grid : Chart) (old new : Standing) : Type 0 where
  pub stands : new.grid ≡ grid
  pub goal : new.goal ≡ old.goal
  pub count : IsChangeCount old.grid grid old.goal new.taken
  pub total : HaveCounted new.taken old.total new.total
  pub sound : IsSound new
