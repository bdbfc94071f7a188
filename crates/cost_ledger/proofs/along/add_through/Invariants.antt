use Rattle.std.proofs.Common.{◌≡◌}
use Rattle.cost_ledger.specs.Sets.{GainsEach}
use Rattle.cost_ledger.specs.Through.{IsThrough}
use Rattle.cost_ledger.proofs.along.add_through.Given as goal

abbrev pub invariant-loop-time : goal.invariant-loop-time
invariant-loop-time l = GainsEach l.fn.found.items l.found.items (λ visit. (visit.cell ≡ l.cell) × IsThrough l.agent l.plan 0 l.time visit)
