use Rattle.std.proofs.Common.{arith, ◌≡◌, ◌-◌}
use Rattle.cell_queue.specs.Heap.{number_in}
use Rattle.cell_queue.proofs.HeapSync.{number_read}
use Rattle.cell_queue.proofs.HeapKeys.{IsSynced-shrink, keys_of-shrink}
use Rattle.cell_queue.proofs.heaps.Heap.remove_last.Goals as goal

pub returns-clause-synced : goal.returns-clause-synced
returns-clause-synced c =
    let heap = c.args.self.now in
    let number : c.index-index.result ≡ number_in heap.size heap.cells.items (heap.len - 1) =
    number_read heap.size heap.cells.items (heap.len - 1) c.index-index.result c.index.result.now (omega (arith, c.requires.synced.cells_far, c.requires.some)) c.index.ensures c.index-index.ensures.is in
    IsSynced-shrink heap.size heap.cells.items heap.keys.items heap.places.items heap.len (heap.len - 1) c.index-index.result c.requires.synced (omega (arith, c.requires.some)) number

pub returns-clause-keys : goal.returns-clause-keys
returns-clause-keys c =
    let heap = c.args.self.now in
    let number : c.index-index.result ≡ number_in heap.size heap.cells.items (heap.len - 1) =
    number_read heap.size heap.cells.items (heap.len - 1) c.index-index.result c.index.result.now (omega (arith, c.requires.synced.cells_far, c.requires.some)) c.index.ensures c.index-index.ensures.is in
    rw (← number) (keys_of-shrink heap.size heap.cells.items heap.keys.items heap.places.items heap.len (heap.len - 1) c.index-index.result c.requires.synced (omega (arith, c.requires.some)) number)
