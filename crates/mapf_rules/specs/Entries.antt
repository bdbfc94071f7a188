-- Entries of two agents: where they meet, and where they share a step.
-- An equation of positions holds only where both are given.
use Rattle.std.specs.Prelude.{◌≡◌, ◌≢◌, ◌⊎◌, ℕ, ◌+◌, ◌<◌, max, Some, IsSome}
use Rattle.grid_cells.specs.Cell.{Point}
use Rattle.plan_table.specs.Route.{Fleet, position_of, last_of, Leaves}

-- the greater of the two agents' last indices
abbrev pub both_end_by : Fleet → ℕ → ℕ → ℕ
both_end_by fleet first second = max (last_of fleet first) (last_of fleet second)

-- one of the two agents still moves at the time, or is to leave
abbrev pub OnePasses : Fleet → ℕ → ℕ → ℕ → Type 0
OnePasses fleet time first second = (time < both_end_by fleet first second) ⊎ (Leaves fleet first ⊎ Leaves fleet second)

-- two agents are in one cell, and one of them still moves or is to leave
-- (Stern et al. 2019, vertex conflict; that a meeting at rest is a Parked entry is this project's choice)
pub record IsVertex (fleet : Fleet) (time first second : ℕ) (cell : Point) : Type 0 where
  pub ordered : first < second
  pub first_there : position_of fleet first time ≡ Some cell
  pub second_there : position_of fleet second time ≡ Some cell
  pub passes : OnePasses fleet time first second

-- two agents that never leave rest in one cell for ever, from the time at which the later one comes to rest
-- (Stern et al. 2019, stay at target; that it is one entry is this project's choice)
pub record IsParked (fleet : Fleet) (time first second : ℕ) (cell : Point) : Type 0 where
  pub ordered : first < second
  pub first_there : position_of fleet first time ≡ Some cell
  pub second_there : position_of fleet second time ≡ Some cell
  pub rests : time ≡ both_end_by fleet first second
  pub first_stays : Leaves fleet first → ⊥
  pub second_stays : Leaves fleet second → ⊥

-- two agents make the same move in one step (Stern et al. 2019, edge conflict)
pub record IsEdge (fleet : Fleet) (time first second : ℕ) (cell next : Point) : Type 0 where
  pub ordered : first < second
  pub first_from : position_of fleet first time ≡ Some cell
  pub second_from : position_of fleet second time ≡ Some cell
  pub first_to : position_of fleet first (time + 1) ≡ Some next
  pub second_to : position_of fleet second (time + 1) ≡ Some next
  pub moves : cell ≢ next

-- the follower moves into the cell that the leader has at the step's start, and the leader is still somewhere at its end
-- (Stern et al. 2019, following conflict; that the follower moves and the leader is still there are this project's choice)
pub record IsFollowing (fleet : Fleet) (time follower leader : ℕ) (cell : Point) : Type 0 where
  pub two : follower ≢ leader
  pub leader_there : position_of fleet leader time ≡ Some cell
  pub leader_goes_on : IsSome (position_of fleet leader (time + 1))
  pub follower_to : position_of fleet follower (time + 1) ≡ Some cell
  pub moves : position_of fleet follower time ≢ Some cell

-- two agents change places in one step (Stern et al. 2019, swapping conflict)
pub record IsSwapping (fleet : Fleet) (time first second : ℕ) (cell other : Point) : Type 0 where
  pub ordered : first < second
  pub first_from : position_of fleet first time ≡ Some cell
  pub second_from : position_of fleet second time ≡ Some other
  pub first_to : position_of fleet first (time + 1) ≡ Some other
  pub second_to : position_of fleet second (time + 1) ≡ Some cell
  pub moves : cell ≢ other
