use Rattle.std.proofs.Common.{◌≡◌, ℕ, ◌<◌, Some}
use Rattle.std.specs.List.{slice_get}
use Rattle.plan_table.specs.Plans.{agents_of, row_of}
use Rattle.plan_table.specs.declared.plans.Row.{Row}
use Rattle.desk_audit.specs.Filing.{IsFiled}
use Rattle.desk_audit.specs.Index.{HasPath}
use Rattle.desk_audit.proofs.sightings.file_paths.Given as goal

abbrev pub invariant-loop-rank : goal.invariant-loop-rank
invariant-loop-rank l = record {
  moments_filed : IsFiled l.moments;
  passes_filed : IsFiled l.passes;
  paths : (agent k : ℕ) → k < l.rank → slice_get (agents_of l.plans.rows) k ≡ Some agent → (row : Row) → row_of l.plans.rows agent ≡ Some row → HasPath l.moments l.passes l.rests agent row.plan l.first_rest l.share;
}
