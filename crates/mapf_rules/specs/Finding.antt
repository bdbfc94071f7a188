-- What a search for conflicts has found: words for a search's own steps (this project's choice).
use Rattle.std.specs.Prelude.{◌≡◌, ◌⊎◌, ℕ, ◌+◌, List, Contains, slice_index, Option, Some}
use Rattle.grid_cells.specs.Cell.{Point}
use Rattle.plan_table.specs.Route.{Fleet, position_of, tracks_of}
use Rattle.mapf_rules.specs.Cycles.{IsRing}
use Rattle.mapf_rules.specs.ConflictList.{Stands}
use Rattle.mapf_rules.specs.Naming.{IsOfPair, time_of, first_agent}
use Rattle.mapf_rules.specs.declared.entries.Conflict.{Conflict}
use Rattle.mapf_rules.specs.declared.entries.Conflict.TheVariants.{Cycle}
use Rattle.mapf_rules.specs.declared.movers.Table.{Table}

-- the fleet that a table of plans tells of
abbrev pub fleet_of : Table → Fleet
fleet_of table = tracks_of table.mode table.plans.now.rows

-- new has the entries of old
abbrev pub KeepsAll : List Conflict → List Conflict → Type 0
KeepsAll old new = (entry : Conflict) → Contains old entry → Contains new entry

-- new has the entries of old and those that are sought, and no others
pub record Adds (Sought : Conflict → Type 0) (old new : List Conflict) : Type 0 where
  pub keeps : KeepsAll old new
  pub has : (entry : Conflict) → Sought entry → Contains new entry
  pub only : (entry : Conflict) → Contains new entry → Contains old entry ⊎ Sought entry

-- new has the entries of old and the one that was found, if any
abbrev pub Offers : List Conflict → List Conflict → Option Conflict → Type 0
Offers old new found = Adds (λ entry. found ≡ Some entry) old new

-- the entry, if it stands, is what was found
abbrev pub Finds : Fleet → Option Conflict → Conflict → Type 0
Finds fleet found entry = Stands fleet entry → found ≡ Some entry

-- the ring of that time and that least agent, if there is one, is what was found
abbrev pub FindsRing : Fleet → ℕ → ℕ → Option Conflict → Type 0
FindsRing fleet time first found = (ring : List ℕ) → IsRing fleet time ring → slice_index ring 0 ≡ first → found ≡ Some (Cycle time ring)

-- the entry stands, and is of that time and those two agents, in this order
abbrev pub StandsOfPair : Fleet → ℕ → ℕ → ℕ → Conflict → Type 0
StandsOfPair fleet time first second entry = Stands fleet entry × IsOfPair entry time first second

-- the entry stands, and is of that time
abbrev pub StandsAt : Fleet → ℕ → Conflict → Type 0
StandsAt fleet time entry = Stands fleet entry × (time_of entry ≡ time)

-- likewise, and it names that agent first
abbrev pub StandsFirst : Fleet → ℕ → ℕ → Conflict → Type 0
StandsFirst fleet time first entry = StandsAt fleet time entry × (first_agent entry ≡ first)

-- the agent is in the one cell at the step's start, and in the other at its end
pub record StepsBetween (fleet : Fleet) (time agent : ℕ) (from to : Point) : Type 0 where
  pub there : position_of fleet agent time ≡ Some from
  pub then : position_of fleet agent (time + 1) ≡ Some to
