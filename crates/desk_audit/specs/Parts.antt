-- The parts of a report: each piece tells of the agents at ranks from one on and before another (this project's choice).
use Rattle.std.specs.Prelude.{◌≡◌, ◌↔◌, ℕ, ◌+◌, ◌*◌, ◌/◌, ◌<◌, ◌≤◌, Option, Some, None, List, Contains, slice_get, slice_index_or, slice_range}
use Rattle.grid_cells.specs.Grid.{Chart}
use Rattle.plan_table.specs.Order.{ListsAll}
use Rattle.plan_table.specs.Plans.{agents_of, row_of}
use Rattle.plan_table.specs.Route.{Fleet, tracks_of}
use Rattle.plan_table.specs.declared.tracks.Mode.{Mode}
use Rattle.scene_edits.specs.Scene.{IsRowOn}
use Rattle.mapf_rules.specs.ConflictList.{Stands}
use Rattle.mapf_rules.specs.Naming.{first_agent}
use Rattle.mapf_rules.specs.Visits.{IsVisit, visit_key}
use Rattle.mapf_rules.specs.declared.visits.Visit.{Visit}
use Rattle.desk_report.specs.Report.{IsBound, AreLines}
use Rattle.desk_audit.specs.declared.parts.Part.{Part}
use Rattle.plan_table.specs.declared.plans.Row.{Row}
use Rattle.mapf_rules.specs.declared.entries.Conflict.{Conflict}

-- the agent has a rank from one on and before another
pub record IsRanked (rows : List (ℕ × Row)) (from to agent : ℕ) : Type 0 where
  pub rank : ℕ
  pub late : from ≤ rank
  pub early : rank < to
  pub at : slice_get (agents_of rows) rank ≡ Some agent

-- where the piece of that number begins, of that many pieces of that many agents
abbrev pub edge : ℕ → ℕ → ℕ → ℕ
edge agents pieces piece = piece * agents / pieces

-- a blocked visit of an agent with a rank from one on and before another
abbrev pub IsVisitOf : Chart → List (ℕ × Row) → ℕ → ℕ → Visit → Type 0
IsVisitOf grid rows from to visit = IsVisit grid rows visit × IsRanked rows from to visit.agent

-- the entries of a list are those that stand and whose first agent has a rank from one on and before another
abbrev pub AreEntriesOf : Fleet → List (ℕ × Row) → ℕ → ℕ → List Conflict → Type 0
AreEntriesOf fleet rows from to entries = (entry : Conflict) → Contains entries entry ↔ (Stands fleet entry × IsRanked rows from to (first_agent entry))

-- the part of a report that the piece from one rank on and before another tells
pub record IsPart (grid : Chart) (mode : Mode) (rows : List (ℕ × Row)) (from to : ℕ) (part : Part) : Type 0 where
  pub entries : AreEntriesOf (tracks_of mode rows) rows from to part.conflicts.items
  pub visits : ListsAll visit_key (IsVisitOf grid rows from to) part.visits.items
  pub lines : AreLines grid (slice_range rows from to) part.lines.items

-- each row's path and goal are on the map
abbrev pub AreOnMap : Chart → List (ℕ × Row) → Type 0
AreOnMap grid rows = (agent : ℕ) (row : Row) → row_of rows agent ≡ Some row → IsRowOn grid.size row

-- each bound in the list is the lower bound of the agent at its place, counted from that rank
abbrev pub HasBounds : Chart → List (ℕ × Row) → ℕ → List (Option (Option ℕ)) → Type 0
HasBounds grid rows from bounds = (k : ℕ) (bound : Option ℕ) (entry : ℕ × Row) → slice_index_or bounds k None ≡ Some bound → slice_get rows (from + k) ≡ Some entry → IsBound grid entry.1 bound
