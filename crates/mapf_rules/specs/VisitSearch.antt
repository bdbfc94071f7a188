-- What a search for blocked visits has found: words for the plain program's own steps (this project's choice).
use Rattle.std.specs.Prelude.{◌≡◌, ◌⊎◌, ℕ, ◌<◌, ◌≤◌, List, Contains, AllPairs}
use Rattle.grid_cells.specs.Cell.{Point}
use Rattle.grid_cells.specs.Grid.{Chart}
use Rattle.plan_table.specs.Order.{ComesBefore}
use Rattle.mapf_rules.specs.Visits.{IsBlocked, visit_key}
use Rattle.mapf_rules.specs.declared.visits.Visit.{Visit}

-- visits in order
abbrev pub IsListed : List Visit → Type 0
IsListed visits = AllPairs (λ a b. ComesBefore (visit_key a) (visit_key b)) visits

-- a visit of that agent on that path, from one time on and before another
pub record IsVisitIn (grid : Chart) (agent : ℕ) (path : List Point) (from to : ℕ) (visit : Visit) : Type 0 where
  pub same_agent : visit.agent ≡ agent
  pub late : from ≤ visit.time
  pub early : visit.time < to
  pub blocked : IsBlocked grid path visit.time visit.cell

-- new has the visits of old, and that agent's from one time on and before another
pub record AddsVisits (grid : Chart) (old new : List Visit) (agent : ℕ) (path : List Point) (from to : ℕ) : Type 0 where
  pub listed : IsListed new
  pub keeps : (visit : Visit) → Contains old visit → Contains new visit
  pub has : (visit : Visit) → IsVisitIn grid agent path from to visit → Contains new visit
  pub only : (visit : Visit) → Contains new visit → Contains old visit ⊎ IsVisitIn grid agent path from to visit
