use Rattle.std.proofs.lemmas.Bool.Decides.{nat_tests}
use Rattle.std.proofs.lemmas.Grind.{common_steps}
use Rattle.std.proofs.Common.{arith}
use Rattle.std.proofs.lemmas.List.{get_or_read}
use Rattle.cell_queue.proofs.Indexes.{index_below}
use Rattle.cell_queue.proofs.HeapSync.{cell_in}
use Rattle.cell_queue.proofs.HeapKeys.{top_least, top_found, none_left}
use Rattle.cell_queue.proofs.heaps.Heap.take_top.Goals as goal

pub returns-then-self-eq0-clause-none : goal.returns-then-self-eq0-clause-none
returns-then-self-eq0-clause-none c cell held = grind (arith, nat_tests, common_steps, none_left, index_below)

pub returns-clause-found : goal.returns-clause-found
returns-clause-found c = grind (arith, nat_tests, common_steps, cell_in, get_or_read, top_found)

pub returns-clause-least : goal.returns-clause-least
returns-clause-least c cell other held e = grind (arith, nat_tests, common_steps, get_or_read, top_least, index_below)
