-- Where and when agents' paths come through cells (this project's choice: a visit up to a path's last index).
use Rattle.std.specs.Prelude.{◌≡◌, ◌↔◌, ℕ, ◌<◌, ◌≤◌, Some, List, Contains}
use Rattle.grid_cells.specs.Cell.{Point}
use Rattle.plan_table.specs.Path.{last_index, place}
use Rattle.plan_table.specs.Plans.{row_of}
use Rattle.plan_table.specs.declared.plans.Row.{Row}
use Rattle.mapf_rules.specs.declared.visits.Visit.{Visit}

-- the agent's path has the visit's cell at its time, which is from one time on and before another
pub record IsThrough (agent : ℕ) (path : List Point) (from to : ℕ) (visit : Visit) : Type 0 where
  pub same_agent : visit.agent ≡ agent
  pub late : from ≤ visit.time
  pub early : visit.time < to
  pub there : place path visit.time ≡ Some visit.cell

-- the visit is to the cell, and the path in its agent's row is there at its time, up to the path's last index
pub record ComesThrough (rows : List (ℕ × Row)) (cell : Point) (visit : Visit) : Type 0 where
  pub here : visit.cell ≡ cell
  pub row : Row
  pub live : row_of rows visit.agent ≡ Some row
  pub on_path : visit.time ≤ last_index row.plan
  pub there : place row.plan visit.time ≡ Some cell

-- the visits are those of the rows' paths to the cell: each one, and no other
abbrev pub AreThrough : List (ℕ × Row) → Point → List Visit → Type 0
AreThrough rows cell visits = (visit : Visit) → Contains visits visit ↔ ComesThrough rows cell visit
