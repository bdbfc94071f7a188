use Rattle.std.proofs.Common.{◌≡◌}
use Rattle.test_parts.proofs.tests.fields.random.edit_at_random.Given as goal

abbrev pub invariant-loop : goal.invariant-loop
invariant-loop g l = record { stands : l.field.grid ≡ l.grid; size : l.grid.size ≡ l.size }
