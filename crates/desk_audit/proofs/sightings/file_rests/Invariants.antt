use Rattle.std.proofs.Common.{◌≡◌, ℕ, ◌<◌, Some}
use Rattle.std.specs.List.{slice_get}
use Rattle.grid_cells.specs.Cell.{Point}
use Rattle.plan_table.specs.Plans.{agents_of}
use Rattle.plan_table.specs.Route.{tracks_of, last_of}
use Rattle.desk_audit.specs.Filing.{IsFiled, Files}
use Rattle.desk_audit.specs.Index.{HasComeToRest, pass}
use Rattle.desk_audit.proofs.sightings.file_rests.Given as goal

abbrev pub invariant-loop-rank : goal.invariant-loop-rank
invariant-loop-rank l = record {
  filed : IsFiled l.rests;
  has : (agent k : ℕ) → k < l.rank → slice_get (agents_of l.plans.rows) k ≡ Some agent → (time : ℕ) (cell : Point) → HasComeToRest (tracks_of l.mode l.plans.rows) agent time cell → Files l.rests cell 0 (pass (last_of (tracks_of l.mode l.plans.rows) agent) agent);
}
