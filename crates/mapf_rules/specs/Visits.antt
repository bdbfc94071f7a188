-- Blocked visits: closed cells on the paths of agents (this project's choice: they are told and not refused).
use Rattle.std.specs.Prelude.{◌≡◌, ℕ, ◌≤◌, Some, List, [], ◌∷◌}
use Rattle.grid_cells.specs.Cell.{Point}
use Rattle.grid_cells.specs.Grid.{Chart, IsClosed}
use Rattle.plan_table.specs.Path.{last_index, place}
use Rattle.plan_table.specs.Plans.{row_of}
use Rattle.plan_table.specs.Order.{ListsAll}
use Rattle.plan_table.specs.declared.plans.Row.{Row}
use Rattle.mapf_rules.specs.declared.visits.Visit.{Visit}

-- the path's place at the time, which is one of its indices, is a closed cell
pub record IsBlocked (grid : Chart) (path : List Point) (time : ℕ) (cell : Point) : Type 0 where
  pub on_path : time ≤ last_index path
  pub there : place path time ≡ Some cell
  pub closed : IsClosed grid cell

-- no place of the path is closed
abbrev pub IsUnblocked : Chart → List Point → Type 0
IsUnblocked grid path = (time : ℕ) (cell : Point) → IsBlocked grid path time cell → ⊥

-- an agent's visit to a closed cell
pub record IsVisit (grid : Chart) (rows : List (ℕ × Row)) (visit : Visit) : Type 0 where
  pub row : Row
  pub live : row_of rows visit.agent ≡ Some row
  pub blocked : IsBlocked grid row.plan visit.time visit.cell

-- visits are listed by agent, then time
abbrev pub visit_key : Visit → List ℕ
visit_key visit = visit.agent ∷ visit.time ∷ []

-- the blocked visits of the agents: each one, and no other, strictly ascending
abbrev pub AreVisits : Chart → List (ℕ × Row) → List Visit → Type 0
AreVisits grid rows visits = ListsAll visit_key (IsVisit grid rows) visits
