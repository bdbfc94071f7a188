use Rattle.std.proofs.Common.{◌≡◌, drop}
use Rattle.change_history.proofs.logs.drop_front.Given as goal

abbrev pub invariant-loop-left : goal.invariant-loop-left
invariant-loop-left g l = drop l.left l.records.items ≡ drop l.count l.initial.records.items

abbrev pub decreases-loop-left : goal.decreases-loop-left
decreases-loop-left g l = l.left
