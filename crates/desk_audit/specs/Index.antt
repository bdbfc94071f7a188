-- What an index of a fleet's sightings has: words for the audit's own steps (this project's choice).
use Rattle.std.specs.Prelude.{◌≡◌, ◌≢◌, ℕ, ◌<◌, ◌≤◌, ◌%◌, Some, List, Contains, length, slice_get}
use Rattle.grid_cells.specs.Cell.{Point}
use Rattle.plan_table.specs.Path.{last_index, place}
use Rattle.plan_table.specs.Plans.{row_of}
use Rattle.plan_table.specs.Route.{Fleet, position_of, last_of}
use Rattle.plan_table.specs.declared.plans.Row.{Row}
use Rattle.plan_table.specs.declared.tracks.Mode.{Mode}
use Rattle.desk_audit.specs.Filing.{IsFiled, Files, HasFiled, KeepsFiled}
use Rattle.desk_audit.specs.declared.tables.Pass.{Pass}
use Rattle.desk_audit.specs.declared.tables.Table.{Table}
use Rattle.desk_audit.specs.declared.sightings.Share.{Share}
use Rattle.desk_audit.specs.declared.sightings.Sightings.{Sightings}

abbrev pub pass : ℕ → ℕ → Pass
pass time agent = record { time = time; agent = agent }

-- the agent is in the cell, and its path has not ended before
abbrev pub IsOnPath : Fleet → ℕ → ℕ → Point → Type 0
IsOnPath fleet agent time cell = (time ≤ last_of fleet agent) × (position_of fleet agent time ≡ Some cell)

-- the agent is in the cell, and its path has ended before
abbrev pub HasComeToRest : Fleet → ℕ → ℕ → Point → Type 0
HasComeToRest fleet agent time cell = (last_of fleet agent < time) × (position_of fleet agent time ≡ Some cell)

-- each agent that rests is filed under its cell, with the last index of its path
abbrev pub HasRests : Fleet → Table → Type 0
HasRests fleet rests = (agent time : ℕ) (cell : Point) → HasComeToRest fleet agent time cell → Files rests cell 0 (pass (last_of fleet agent) agent)

-- no agent's rest begins before
abbrev pub AllRestFrom : Fleet → ℕ → Type 0
AllRestFrom fleet first = (agent time : ℕ) (cell : Point) → HasComeToRest fleet agent time cell → first ≤ last_of fleet agent

-- the time is of the share
abbrev pub IsOf : Share → ℕ → Type 0
IsOf share time = time % share.many ≡ share.number

-- the tables have the places of the agent's path at those of the share's times, and where another rests by cell alone, too
pub record HasPlaces (moments passes rests : Table) (agent : ℕ) (path : List Point) (first_rest : ℕ) (share : Share) (IsAmong : ℕ → Type 0) : Type 0 where
  pub seen : (time : ℕ) (cell : Point) → IsAmong time → place path time ≡ Some cell → IsOf share time → Files moments cell time (pass time agent)
  pub passed : (time : ℕ) (cell : Point) → IsAmong time → place path time ≡ Some cell → IsOf share time → first_rest < time → HasFiled rests cell 0 → Files passes cell 0 (pass time agent)

-- the tables keep what was filed, and have the places of the agent's path at those of the share's times
pub record AddsPlaces (moments moments' passes passes' rests : Table) (agent : ℕ) (path : List Point) (first_rest : ℕ) (share : Share) (IsAmong : ℕ → Type 0) : Type 0 where
  pub moments_filed : IsFiled moments'
  pub passes_filed : IsFiled passes'
  pub keeps_moments : KeepsFiled moments moments'
  pub keeps_passes : KeepsFiled passes passes'
  pub has : HasPlaces moments' passes' rests agent path first_rest share IsAmong

-- likewise, of all times of its path
abbrev pub AddsPath : Table → Table → Table → Table → Table → ℕ → List Point → ℕ → Share → Type 0
AddsPath moments moments' passes passes' rests agent path first_rest share = AddsPlaces moments moments' passes passes' rests agent path first_rest share (λ time. time ≤ last_index path)

-- the tables have the agent's path at the share's times
abbrev pub HasPath : Table → Table → Table → ℕ → List Point → ℕ → Share → Type 0
HasPath moments passes rests agent path first_rest share = HasPlaces moments passes rests agent path first_rest share (λ time. time ≤ last_index path)

-- the tables have each agent's path at the share's times
pub record HasPaths (moments passes rests : Table) (rows : List (ℕ × Row)) (first_rest : ℕ) (share : Share) : Type 0 where
  pub moments_filed : IsFiled moments
  pub passes_filed : IsFiled passes
  pub paths : (agent : ℕ) (row : Row) → row_of rows agent ≡ Some row → HasPath moments passes rests agent row.plan first_rest share

-- whoever is in a cell at a time of the share is filed there: on its path by cell and time, at rest by cell, and by cell alone, too,
-- where it comes to a cell in which another is at rest; no rest begins before the first that is noted
pub record IsShareOf (fleet : Fleet) (share : Share) (index : Sightings) : Type 0 where
  pub moments_filed : IsFiled index.moments
  pub rests_filed : IsFiled index.rests
  pub passes_filed : IsFiled index.passes
  pub moments : (agent time : ℕ) (cell : Point) → IsOf share time → IsOnPath fleet agent time cell → Files index.moments cell time (pass time agent)
  pub rests : HasRests fleet index.rests
  pub from : AllRestFrom fleet index.first_rest
  pub passes : (agent other time : ℕ) (cell : Point) → IsOf share time → IsOnPath fleet agent time cell → HasComeToRest fleet other time cell → Files index.passes cell 0 (pass time agent)

-- the table has each agent that is in a cell at the time, on its path
pub record IsSeenAt (fleet : Fleet) (time : ℕ) (moments : Table) : Type 0 where
  pub filed : IsFiled moments
  pub has : (agent : ℕ) (cell : Point) → IsOnPath fleet agent time cell → Files moments cell time (pass time agent)

-- the share of that number, of so many
abbrev pub share_of : ℕ → ℕ → Share
share_of many number = record { many = many; number = number }

-- each of the sightings is the share of its place's number, of so many
abbrev pub AreShares : Fleet → ℕ → List Sightings → Type 0
AreShares fleet many index = (k : ℕ) (share : Sightings) → slice_get index k ≡ Some share → IsShareOf fleet (share_of many k) share

-- the tables of each share are in order
abbrev pub AreFiled : List Sightings → Type 0
AreFiled index = (k : ℕ) (share : Sightings) → slice_get index k ≡ Some share → IsFiled share.moments × IsFiled share.rests × IsFiled share.passes

-- each agent but that one that is filed under the cell alone, in any share, is in the list
abbrev pub HasPasses : List Sightings → Point → ℕ → List Pass → Type 0
HasPasses index cell agent found =
    (k : ℕ) (share : Sightings) (pass : Pass) → slice_get index k ≡ Some share → Files share.passes cell 0 pass → pass.agent ≢ agent → Contains found pass

-- an index has all shares in turn, so that each time is in one
pub record IsIndexOf (fleet : Fleet) (index : List Sightings) : Type 0 where
  pub some : 0 < length index
  pub shares : AreShares fleet (length index) index

-- the rows of a fleet's agents, and its mode
pub record Fleetwide : Type 0 where
  pub mode : Mode
  pub rows : List (ℕ × Row)
