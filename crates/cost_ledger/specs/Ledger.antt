-- What a ledger of costs stands for (this project's choice).
use Rattle.std.specs.Prelude.{◌≡◌, ◌≢◌, ◌↔◌, ℕ, Option, Some, None, List, count_by}
use Rattle.std.specs.Option.{is_none}
use Rattle.grid_cells.specs.Cell.{Point}
use Rattle.grid_cells.specs.Grid.{Chart, IsClosed}
use Rattle.plan_table.specs.Plans.{row_of}
use Rattle.plan_table.specs.declared.plans.Row.{Row}
use Rattle.mapf_rules.specs.Costs.{IsSettleTime, IsFinished, AreCosts}
use Rattle.mapf_rules.specs.Visits.{AreVisits}
use Rattle.mapf_rules.specs.declared.visits.Visit.{Visit}

-- the rows, and the visits that are told of them
pub record Ledger : Type 0 where
  pub rows : List (ℕ × Row)
  pub visits : List Visit

-- its visits are the blocked ones of its rows on that map
abbrev pub StandsForMap : Ledger → Chart → Type 0
StandsForMap ledger grid = AreVisits grid ledger.rows ledger.visits

-- every other cell is closed on both maps or on neither
abbrev pub SameClosedBut : Chart → Chart → Point → Type 0
SameClosedBut old new cell = (other : Point) → other ≢ cell → IsClosed old other ↔ IsClosed new other

-- the cell is closed on both maps or on neither
abbrev pub SameAt : Chart → Chart → Point → Type 0
SameAt old new cell = IsClosed old cell ↔ IsClosed new cell

-- the agent's settle time (Stern et al. 2019), and none where it has no row
abbrev pub IsSettleOf : List (ℕ × Row) → ℕ → Option ℕ → Type 0
IsSettleOf rows agent None = row_of rows agent ≡ None
IsSettleOf rows agent (Some time) = (row : Row) × (row_of rows agent ≡ Some row) × IsSettleTime row.plan time

-- the agent has a row and is finished
abbrev pub IsFinishedIn : List (ℕ × Row) → ℕ → Type 0
IsFinishedIn rows agent = (row : Row) × (row_of rows agent ≡ Some row) × IsFinished row

-- how many agents have no cost
abbrev pub IsUnfinishedCount : List (ℕ × Row) → ℕ → Type 0
IsUnfinishedCount rows count = (costs : List (Option ℕ)) × AreCosts rows costs × (count ≡ count_by is_none costs)
