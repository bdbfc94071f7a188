use Rattle.std.proofs.Common.{◌≡◌, ◌++◌}
use Rattle.change_history.proofs.lists.listed.Given as goal

abbrev pub invariant-loop-item : goal.invariant-loop-item
invariant-loop-item g l = l.list.items ++ l.item-iterator ≡ l.fn.set.keys
