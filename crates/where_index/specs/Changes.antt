-- Records over time while they are changed: words for the program's own steps (this project's choice).
use Rattle.std.specs.Prelude.{◌≡◌, ◌↔◌, ℕ, ◌+◌, ◌<◌, ◌≤◌, ◌&&◌, ◌==◌, nat_lt, if◌then◌else◌, Option, Some, Contains}
use Rattle.grid_cells.specs.Cell.{Point}
use Rattle.plan_table.specs.declared.paths.TheConstants.{MOST_LAST_INDEX}
use Rattle.plan_table.specs.Route.{Route}
use Rattle.where_index.specs.declared.spot_sets.Spot.{Spot}
use Rattle.where_index.specs.declared.trails.Hop.{Hop}
use Rattle.where_index.specs.ByCell.{ByCell, spots_at}
use Rattle.where_index.specs.Records.{hop, stand_at, tail_at, hop_at}

-- the spots of each cell are where the agents are at the times, and one step later
abbrev pub HasSpots : ByCell → (ℕ → ℕ → Option Hop) → Type 0
HasSpots sets f = (cell : Point) (s : Spot) → Contains (spots_at sets cell) s ↔ (f s.step.agent s.time ≡ Some (hop cell s.step.to))

-- f, but for one agent at one time
abbrev pub set_at : {X : Type 0} → (ℕ → ℕ → X) → ℕ → ℕ → X → ℕ → ℕ → X
set_at f agent time v a t = if (a == agent && (t == time)) then v else f a t

-- f, but for one agent
abbrev pub set_row : {X : Type 0} → (ℕ → ℕ → X) → ℕ → (ℕ → X) → ℕ → ℕ → X
set_row f agent v a t = if a == agent then v t else f a t

-- the agent's spots by the one row give way to those by the other
abbrev pub ChangesSpots : ByCell → ByCell → ℕ → (ℕ → Option Hop) → (ℕ → Option Hop) → Type 0
ChangesSpots sets changed agent old new = (f : ℕ → ℕ → Option Hop) → HasSpots sets f → ((t : ℕ) → f agent t ≡ old t) → HasSpots changed (set_row f agent new)

-- the agent's spot at a time gives way to another
abbrev pub ChangesSpot : ByCell → ByCell → ℕ → ℕ → Option Hop → Option Hop → Type 0
ChangesSpot sets changed agent time old new = (f : ℕ → ℕ → Option Hop) → HasSpots sets f → f agent time ≡ old → HasSpots changed (set_at f agent time new)

-- new before a time, old from it on
abbrev pub mixed : {X : Type 0} → (ℕ → X) → (ℕ → X) → ℕ → ℕ → X
mixed old new x t = if nat_lt t x then new t else old t

-- the two routes have the same records at the time
pub record HaveSameAt (old new : Route) (time : ℕ) : Type 0 where
  pub stands : stand_at old time ≡ stand_at new time
  pub tails : tail_at old time ≡ tail_at new time
  pub hops : hop_at old.path time ≡ hop_at new.path time

-- the two routes have the same records but from one time to another, which is at most one after the greatest last index
pub record DifferWithin (old new : Route) (from to : ℕ) : Type 0 where
  pub range : from ≤ to
  pub end : to ≤ MOST_LAST_INDEX + 1
  pub same_before : (t : ℕ) → t < from → HaveSameAt old new t
  pub same_after : (t : ℕ) → to ≤ t → HaveSameAt old new t
