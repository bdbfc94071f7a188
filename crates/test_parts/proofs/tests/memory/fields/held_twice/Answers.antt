use Rattle.std.proofs.Common.{rules}
use Rattle.test_parts.proofs.tests.memory.fields.held_twice.Goals as goal

pub hold-requires-clause-stands : goal.hold-requires-clause-stands
hold-requires-clause-stands g c = search (rules, c.in_ok-fields.ensures, c.in_ok-fields.is, c.hold-fields.ensures.stands)
