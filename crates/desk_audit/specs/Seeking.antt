-- How the entries of a piece are looked for: words for the audit's own steps (this project's choice).
use Rattle.std.specs.Prelude.{◌≡◌, ◌≢◌, ◌⊎◌, ℕ, ◌+◌, ◌<◌, ◌≤◌, Option, Some, List, Contains, slice_get, slice_index}
use Rattle.grid_cells.specs.Cell.{Point}
use Rattle.plan_table.specs.Plans.{agents_of}
use Rattle.plan_table.specs.Route.{Fleet, position_of, last_of, tracks_of}
use Rattle.plan_table.specs.declared.plans.Row.{Row}
use Rattle.plan_table.specs.declared.tracks.Mode.{Mode}
use Rattle.mapf_rules.specs.ConflictList.{Stands}
use Rattle.mapf_rules.specs.Naming.{IsOfPair, time_of, first_agent}
use Rattle.mapf_rules.specs.declared.entries.Conflict.{Conflict}
use Rattle.mapf_rules.specs.declared.entries.Conflict.TheVariants.{Cycle}
use Rattle.desk_audit.specs.declared.tables.Pass.{Pass}

-- new has the entries of old and each entry that is sought, and no others but entries that name the agent first
pub record FindsAll (fleet : Fleet) (agent : ℕ) (old new : List Conflict) (Sought : Conflict → Type 0) : Type 0 where
  pub keeps : (entry : Conflict) → Contains old entry → Contains new entry
  pub only : (entry : Conflict) → Contains new entry → Contains old entry ⊎ (Stands fleet entry × (first_agent entry ≡ agent))
  pub has : (entry : Conflict) → Stands fleet entry → Sought entry → Contains new entry

-- the entry is of that time, of the agent and of one that is met, whose own time is not later
pub record IsOfMet (time agent : ℕ) (met : List Pass) (entry : Conflict) : Type 0 where
  pub other : Pass
  pub listed : Contains met other
  pub early : other.time ≤ time
  pub of : IsOfPair entry time agent other.agent

-- the entry is of the agent and of one that passes later, on its path
pub record IsOfPassed (fleet : Fleet) (after agent : ℕ) (passes : List Pass) (entry : Conflict) : Type 0 where
  pub other : Pass
  pub listed : Contains passes other
  pub later : after < other.time
  pub on_path : other.time ≤ last_of fleet other.agent
  pub of : IsOfPair entry other.time agent other.agent

-- new has the entries of old, and those of the agent and of one that passes later, on its path
abbrev pub FindsPassed : Fleet → ℕ → List Conflict → List Conflict → ℕ → List Pass → Type 0
FindsPassed fleet agent old new after passes = FindsAll fleet agent old new (IsOfPassed fleet after agent passes)

-- the entry is a ring of that time whose first agent is that one
abbrev pub IsRingFrom : ℕ → ℕ → Conflict → Type 0
IsRingFrom time agent entry = (ring : List ℕ) × (entry ≡ Cycle time ring) × (slice_index ring 0 ≡ agent)

-- the entry is of that time, or of one after it, and names the agent first
abbrev pub IsFirstAt : ℕ → ℕ → Conflict → Type 0
IsFirstAt time agent entry = (time_of entry ≡ time) × (first_agent entry ≡ agent)

abbrev pub IsFirstAfter : ℕ → ℕ → Conflict → Type 0
IsFirstAfter end agent entry = (end < time_of entry) × (first_agent entry ≡ agent)

-- new has the entries of old, and each that names the agent at that rank first
abbrev pub FindsRanked : Mode → List (ℕ × Row) → ℕ → List Conflict → List Conflict → Type 0
FindsRanked mode rows rank old new =
    (agent : ℕ) → slice_get (agents_of rows) rank ≡ Some agent → FindsAll (tracks_of mode rows) agent old new (λ entry. first_agent entry ≡ agent)

-- where the agent goes on to another cell in the step, that is the cell
abbrev pub IsAhead : Fleet → ℕ → ℕ → Point → Option Point → Type 0
IsAhead fleet agent time here ahead = (cell : Point) → position_of fleet agent (time + 1) ≡ Some cell → cell ≢ here → ahead ≡ Some cell

-- each other agent in the cell at the time is in the list
abbrev pub HasOthersIn : Fleet → ℕ → Point → ℕ → List Pass → Type 0
HasOthersIn fleet time cell agent met = (other : ℕ) → other ≢ agent → position_of fleet other time ≡ Some cell → (pass : Pass) × (pass.agent ≡ other) × (pass.time ≤ time) × Contains met pass

-- the entry is of that time and names the agent first, and the one that it names next is in the cell
pub record Leads (fleet : Fleet) (time agent : ℕ) (cell : Point) (entry : Conflict) : Type 0 where
  pub other : ℕ
  pub apart : other ≢ agent
  pub there : position_of fleet other time ≡ Some cell
  pub of : IsOfPair entry time agent other ⊎ IsRingFrom time agent entry

-- new has the entries of old, and those that so lead
abbrev pub FindsLed : Fleet → ℕ → List Conflict → List Conflict → ℕ → Point → Type 0
FindsLed fleet agent old new time cell = FindsAll fleet agent old new (Leads fleet time agent cell)
