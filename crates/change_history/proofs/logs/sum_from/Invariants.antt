use Rattle.std.proofs.Common.{◌≡◌, ◌+◌, drop, sum}
use Rattle.change_history.proofs.logs.sum_from.Given as goal

abbrev pub invariant-loop-place : goal.invariant-loop-place
invariant-loop-place l = l.total + sum (drop l.place l.counts.items) ≡ sum (drop l.first l.counts.items)
