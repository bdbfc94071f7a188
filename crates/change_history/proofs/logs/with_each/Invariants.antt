use Rattle.std.proofs.Common.{◌≡◌, ◌++◌}
use Rattle.change_history.proofs.Leading.{one_each}
use Rattle.change_history.proofs.logs.with_each.Given as goal

abbrev pub invariant-loop-item : goal.invariant-loop-item
invariant-loop-item g l = l.records.items ++ one_each l.came l.item-iterator ≡ l.fn.records.items ++ one_each l.came l.fn.items.keys
