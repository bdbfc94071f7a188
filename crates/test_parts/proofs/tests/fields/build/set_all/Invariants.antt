use Rattle.std.proofs.Common.{take, ◌≡◌}
use Rattle.goal_fields.specs.Target.{Covers}
use Rattle.test_parts.proofs.tests.fields.build.set_all.Given as goal

abbrev pub invariant-loop-cell : goal.invariant-loop-cell
invariant-loop-cell l = record { size : l.grid.size ≡ l.fn.grid.size; covers : Covers (take l.cell-index l.cells) l.fn.grid l.grid }
