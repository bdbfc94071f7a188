use Rattle.std.proofs.Common.{◌≡◌, ◌++◌, take, drop}
use Rattle.std.specs.Prelude.{map}
use Rattle.solver_check.proofs.checks.turning.turn_each.Given as goal

abbrev pub invariant-loop-item : goal.invariant-loop-item
invariant-loop-item g l = l.item-items ≡ map g.T.Turning.turned (take l.item-index l.fn.items.items) ++ drop l.item-index l.fn.items.items
