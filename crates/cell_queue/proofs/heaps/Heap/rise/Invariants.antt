use Rattle.cell_queue.specs.Heap.{IsMoving, IsLooseUp}
use Rattle.cell_queue.proofs.heaps.Heap.rise.Given as goal

abbrev pub invariant-loop-at : goal.invariant-loop-at
invariant-loop-at l = IsMoving IsLooseUp l.fn.self l.self l.at

abbrev pub decreases-loop-at : goal.decreases-loop-at
decreases-loop-at l = l.at
