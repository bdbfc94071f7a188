use Rattle.std.proofs.lemmas.Bool.Decides.{nat_tests}
use Rattle.std.proofs.lemmas.Grind.{common_steps}
use Rattle.std.proofs.Common.{arith}
use Rattle.std.proofs.lemmas.List.{get_or_read}
use Rattle.cell_queue.proofs.HeapKeys.{keys_of-absent}
use Rattle.cell_queue.proofs.heaps.Heap.remove.Goals as goal

pub returns-else-place-self-clause-keys : goal.returns-else-place-self-clause-keys
returns-else-place-self-clause-keys c = grind (arith, nat_tests, common_steps, get_or_read, keys_of-absent)
