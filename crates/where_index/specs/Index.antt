-- What an index stands for: a fleet, by the records of its routes (this project's choice).
use Rattle.std.specs.Prelude.{◌≡◌, ℕ, ◌≤◌, ◌==◌, if◌then◌else◌, Option, List}
use Rattle.std.specs.Option.{option_and_then}
use Rattle.std.specs.Map.{lookup}
use Rattle.std.specs.Ordering.{nat_cmp, is_eq}
use Rattle.plan_table.specs.Route.{Route, Fleet, last_of}
use Rattle.where_index.specs.declared.traffic.Traffic.{Traffic}
use Rattle.where_index.specs.declared.ends.End.{End}
use Rattle.where_index.specs.Ends.{IsEndOf}
use Rattle.where_index.specs.Records.{leg_at, rest_at}
use Rattle.where_index.specs.Changes.{HasSpots}
use Rattle.where_index.specs.Traffic.{HasTraffic}

-- what an index keeps
pub record Contents : Type 0 where
  pub traffic : Traffic
  pub ends : List (ℕ × End)
  pub horizon : ℕ
  pub touched : ℕ

-- what is kept of an agent's end
abbrev pub end_in : List (ℕ × End) → ℕ → Option End
end_in ends agent = lookup (λ k. is_eq (nat_cmp agent k)) ends

-- what the routes of a fleet have over time
abbrev pub all_of : {X : Type 0} → (Route → ℕ → Option X) → Fleet → ℕ → ℕ → Option X
all_of g fleet agent time = option_and_then (λ r. g r time) (fleet agent)

-- the contents are the records of the fleet's routes, and nothing else
pub record StandsFor (index : Contents) (fleet : Fleet) : Type 0 where
  pub traffic : HasTraffic index.traffic (all_of leg_at fleet)
  pub tails : HasSpots index.traffic.tails (all_of rest_at fleet)
  pub ends : (agent : ℕ) → IsEndOf (end_in index.ends agent) (fleet agent)
  pub horizon : (agent : ℕ) → last_of fleet agent ≤ index.horizon

-- the fleet with another route for an agent, or none
abbrev pub with_route : Fleet → ℕ → Option Route → Fleet
with_route fleet agent r a = if a == agent then r else fleet a

-- what stands for a fleet in which that is the agent's route, or none, gives way to what stands for it with the next one
abbrev pub ChangesRoute : Contents → Contents → ℕ → Option Route → Option Route → Type 0
ChangesRoute old new agent was next = (fleet : Fleet) → StandsFor old fleet → fleet agent ≡ was → StandsFor new (with_route fleet agent next)
