use Rattle.std.proofs.lemmas.Bool.Decides.{nat_tests}
use Rattle.std.proofs.lemmas.Grind.{common_steps}
use Rattle.std.proofs.Common.{arith}
use Rattle.cell_queue.proofs.HeapKeys.{keys_of-empty}
use Rattle.cell_queue.proofs.heaps.Heap.new.Goals as goal

pub returns-clause-empty : goal.returns-clause-empty
returns-clause-empty c = grind (arith, nat_tests, common_steps, keys_of-empty)
