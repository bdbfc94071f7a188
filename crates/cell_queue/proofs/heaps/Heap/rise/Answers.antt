use Rattle.std.proofs.lemmas.Bool.Decides.{nat_tests}
use Rattle.std.proofs.lemmas.Grind.{common_steps}
use Rattle.std.proofs.Common.{arith}
use Rattle.std.proofs.lemmas.List.{get_or_read}
use Rattle.cell_queue.proofs.HeapOrder.{IsLooseUp-rise}
use Rattle.cell_queue.proofs.heaps.Heap.rise.Goals as goal

pub loop-at-preserved : goal.loop-at-preserved
loop-at-preserved c = grind (arith, nat_tests, common_steps, get_or_read, IsLooseUp-rise)
