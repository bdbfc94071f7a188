-- Where agents go over time, by cell and by their way (this project's choice).
use Rattle.std.specs.Prelude.{◌≡◌, ℕ, Option}
use Rattle.where_index.specs.declared.trails.Hop.{Hop}
use Rattle.where_index.specs.declared.traffic.Traffic.{Traffic}
use Rattle.where_index.specs.Changes.{HasSpots, set_at, set_row}
use Rattle.where_index.specs.Crowds.{HasCrowds}
use Rattle.where_index.specs.Flows.{HasFlows}

-- the spots are those of the agents at the times, and so are the crowds and the counts
pub record HasTraffic (traffic : Traffic) (f : ℕ → ℕ → Option Hop) : Type 0 where
  pub stands : HasSpots traffic.stands f
  pub crowds : HasCrowds traffic.crowds f
  pub flows : HasFlows traffic.flows f

-- where the agent goes by the one row gives way to where it goes by the other
abbrev pub ChangesLegs : Traffic → Traffic → ℕ → (ℕ → Option Hop) → (ℕ → Option Hop) → Type 0
ChangesLegs traffic changed agent old new = (f : ℕ → ℕ → Option Hop) → HasTraffic traffic f → ((t : ℕ) → f agent t ≡ old t) → HasTraffic changed (set_row f agent new)

-- where the agent goes in a step gives way to another
abbrev pub ChangesLeg : Traffic → Traffic → ℕ → ℕ → Option Hop → Option Hop → Type 0
ChangesLeg traffic changed agent time old new = (f : ℕ → ℕ → Option Hop) → HasTraffic traffic f → f agent time ≡ old → HasTraffic changed (set_at f agent time new)
