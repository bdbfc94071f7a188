use Rattle.std.proofs.Common.{◌≡◌, ◌++◌}
use Rattle.cost_ledger.specs.Agents.{front_of}
use Rattle.cost_ledger.proofs.agents.front.Given as goal

abbrev pub invariant-loop-visit : goal.invariant-loop-visit
invariant-loop-visit l = l.found.items ++ front_of l.agent l.visit-iterator ≡ front_of l.agent l.fn.visits
