-- Rings of agents that move on to one another's cells.
use Rattle.std.specs.Prelude.{◌≡◌, ◌≢◌, ℕ, ◌+◌, ◌%◌, ◌≤◌, Some, IsSome, List, length, slice_index, Contains, All, AllPairs, EachIndex}
use Rattle.grid_cells.specs.Cell.{Point}
use Rattle.plan_table.specs.Route.{Fleet, position_of}
use Rattle.mapf_rules.specs.Entries.{IsFollowing}

-- the agent moves out of the cell in the step: it is there at the start, and somewhere else at the end
pub record MovesOut (fleet : Fleet) (time agent : ℕ) (cell : Point) : Type 0 where
  pub from : position_of fleet agent time ≡ Some cell
  pub goes_on : IsSome (position_of fleet agent (time + 1))
  pub moves : position_of fleet agent (time + 1) ≢ Some cell

-- one agent follows another into its cell
abbrev pub Follows : Fleet → ℕ → ℕ → ℕ → Type 0
Follows fleet time follower leader = (cell : Point) × IsFollowing fleet time follower leader cell

-- at least three agents, the least first, of which each follows the next, and the last the first
-- (Stern et al. 2019, cycle conflict; that they are three or more, and that no other agent moves out of a cell of theirs
-- in that step, are this project's choice)
pub record IsRing (fleet : Fleet) (time : ℕ) (ring : List ℕ) : Type 0 where
  pub three : 3 ≤ length ring
  pub distinct : AllPairs (λ a b. a ≢ b) ring
  pub least_first : All (λ a. slice_index ring 0 ≤ a) ring
  pub round : EachIndex ring (λ k. Follows fleet time (slice_index ring k) (slice_index ring ((k + 1) % length ring)))
  pub alone : (member other : ℕ) (cell : Point) → Contains ring member → position_of fleet member time ≡ Some cell → MovesOut fleet time other cell → other ≡ member

-- the ring has a member that moves out of the cell
pub record IsRingAt (fleet : Fleet) (time : ℕ) (cell : Point) (ring : List ℕ) : Type 0 where
  pub round : IsRing fleet time ring
  pub member : ℕ
  pub of : Contains ring member
  pub out : MovesOut fleet time member cell
