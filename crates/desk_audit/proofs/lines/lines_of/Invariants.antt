use Rattle.std.proofs.Common.{◌≡◌, ◌-◌, length, slice_range}
use Rattle.std.specs.Option.{IfSome}
use Rattle.desk_report.specs.Report.{AreLines}
use Rattle.desk_audit.specs.Parts.{HasBounds}
use Rattle.desk_audit.proofs.lines.lines_of.Given as goal

abbrev pub invariant-loop-rank : goal.invariant-loop-rank
invariant-loop-rank l = record {
  long : length l.bounds.items ≡ l.to - l.from;
  bounds : HasBounds l.grid l.plans.rows l.from l.bounds.items;
  room : IfSome l.room (λ search. search ≡ l.grid);
  lines : AreLines l.grid (slice_range l.plans.rows l.from l.rank) l.lines.items;
}
