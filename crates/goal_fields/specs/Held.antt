-- The fields of the goals that are held.
use Rattle.std.specs.Prelude.{◌≡◌, ◌≢◌, ℕ, ◌+◌, ◌*◌, ◌<◌, ◌↔◌, Option, List, All, AllPairs, Contains}
use Rattle.grid_cells.specs.Cell.{Point}
use Rattle.grid_cells.specs.Size.{Holds}
use Rattle.grid_cells.specs.Grid.{Chart}
use Rattle.grid_cells.specs.Walks.{IsDistance}
use Rattle.grid_cells.specs.declared.sizes.TheConstants.{MOST_SIDE}
use Rattle.goal_fields.specs.Target.{Standing}

-- the fields of the goals that are held, and how many cells the queue that is lent to them has taken in all
pub record Holding : Type 0 where
  pub fields : List Standing
  pub total : ℕ

-- a field of the goal is among them
abbrev pub HasGoal : List Standing → Point → Type 0
HasGoal fields goal = (field : Standing) × Contains fields field × (field.goal ≡ goal)

-- all stand for this grid
abbrev pub StandFor : Chart → List Standing → Type 0
StandFor grid fields = All (λ field. field.grid ≡ grid) fields

-- each cell of a field's map has a distance to its goal, which may be that there is none
abbrev pub HaveDistances : List Standing → Type 0
HaveDistances fields = All (λ field. (cell : Point) → Holds field.grid.size cell → (distance : Option ℕ) × IsDistance field.grid cell field.goal distance) fields

-- a cell's rank in the order by row, then by column
abbrev pub rank_of : Point → ℕ
rank_of cell = cell.y * MOST_SIDE + cell.x

-- the goals rise by row, then by column: no goal has two fields
abbrev pub RiseByGoal : List Standing → Type 0
RiseByGoal fields = AllPairs (λ one other. rank_of one.goal < rank_of other.goal) fields

-- the fields of the other goals are the same
abbrev pub SameButGoal : List Standing → List Standing → Point → Type 0
SameButGoal old new goal = (field : Standing) → field.goal ≢ goal → (Contains new field ↔ Contains old field)

-- the numbers rise
abbrev pub IsRising : List ℕ → Type 0
IsRising ranks = AllPairs (λ one other. one < other) ranks
