use Rattle.std.proofs.Common.{◌-◌}
use Rattle.cell_queue.specs.Heap.{IsMoving, IsLooseDown}
use Rattle.cell_queue.proofs.heaps.Heap.sink.Given as goal

abbrev pub invariant-loop-at : goal.invariant-loop-at
invariant-loop-at l = IsMoving IsLooseDown l.fn.self l.self l.at

abbrev pub decreases-loop-at : goal.decreases-loop-at
decreases-loop-at l = l.fn.self.len - l.at
