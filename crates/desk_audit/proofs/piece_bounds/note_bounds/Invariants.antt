use Rattle.std.proofs.Common.{◌≡◌, length}
use Rattle.desk_audit.specs.Parts.{HasBounds}
use Rattle.desk_audit.proofs.piece_bounds.note_bounds.Given as goal

abbrev pub invariant-loop-rank : goal.invariant-loop-rank
invariant-loop-rank l = record {
  long : length l.bounds.items ≡ length l.initial.bounds.items;
  bounds : HasBounds l.field.grid l.plans.rows l.from l.bounds.items;
}
