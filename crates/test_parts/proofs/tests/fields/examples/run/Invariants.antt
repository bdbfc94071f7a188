use Rattle.std.proofs.Common.{◌≡◌}
use Rattle.test_parts.proofs.tests.fields.examples.run.Given as goal

abbrev pub invariant-loop-next : goal.invariant-loop-next
invariant-loop-next g l = l.field.grid ≡ l.grid
