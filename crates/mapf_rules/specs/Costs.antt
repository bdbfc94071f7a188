-- Settle times, sum of costs and makespan (Stern et al. 2019, where no other source is named).
use Rattle.std.specs.Prelude.{◌≡◌, ℕ, ◌≤◌, max, Option, Some, List, IsSome, All, unwrap_or, map, sum, fold}
use Rattle.std.specs.Option.{SomeIff}
use Rattle.grid_cells.specs.Cell.{Point}
use Rattle.plan_table.specs.Path.{place}
use Rattle.plan_table.specs.Order.{EachOf}
use Rattle.plan_table.specs.declared.plans.Row.{Row}

-- the path's place is the same from that time on
abbrev pub RestsFrom : List Point → ℕ → Type 0
RestsFrom path time = (later : ℕ) → time ≤ later → place path later ≡ place path time

-- the least time from which the agent rests (Stern et al. 2019: the cost of an agent under stay at target)
pub record IsSettleTime (path : List Point) (time : ℕ) : Type 0 where
  pub rests : RestsFrom path time
  pub least : (earlier : ℕ) → RestsFrom path earlier → time ≤ earlier

-- the cell in which the agent comes to rest is its goal
abbrev pub IsFinished : Row → Type 0
IsFinished row = (time : ℕ) × IsSettleTime row.plan time × (place row.plan time ≡ Some row.goal)

-- the cost of an agent: its settle time, given where it is finished
pub record IsCost (row : Row) (cost : Option ℕ) : Type 0 where
  pub time : ℕ
  pub settles : IsSettleTime row.plan time
  pub given : SomeIff cost (IsFinished row) time

-- the costs of the agents, in their order
abbrev pub AreCosts : List (ℕ × Row) → List (Option ℕ) → Type 0
AreCosts rows costs = EachOf (λ entry cost. IsCost entry.1 cost) rows costs

-- given where each is given: their sum, and 0 of none
abbrev pub IsSumOf : List (Option ℕ) → Option ℕ → Type 0
IsSumOf given total = SomeIff total (All IsSome given) (sum (map (λ n. unwrap_or n 0) given))

-- given where each is given: the greatest of them, and 0 of none
abbrev pub IsGreatestOf : List (Option ℕ) → Option ℕ → Type 0
IsGreatestOf given greatest = SomeIff greatest (All IsSome given) (fold max 0 (map (λ n. unwrap_or n 0) given))

-- the sum of costs (Stern et al. 2019; that it is given only where every agent is finished is this project's choice)
abbrev pub IsSumOfCosts : List (ℕ × Row) → Option ℕ → Type 0
IsSumOfCosts rows total = (costs : List (Option ℕ)) × AreCosts rows costs × IsSumOf costs total

-- the makespan (Stern et al. 2019; that it is given only where every agent is finished is this project's choice)
abbrev pub IsMakespan : List (ℕ × Row) → Option ℕ → Type 0
IsMakespan rows greatest = (costs : List (Option ℕ)) × AreCosts rows costs × IsGreatestOf costs greatest
