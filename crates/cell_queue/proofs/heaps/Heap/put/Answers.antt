use Rattle.std.proofs.lemmas.Bool.Decides.{nat_tests}
use Rattle.std.proofs.lemmas.Grind.{common_steps}
use Rattle.std.specs.Prelude.{slice_index, Some}
use Rattle.std.proofs.Common.{arith, ◌≡◌, ◌<◌, ◌≤◌, ◌∙◌, length}
use Rattle.std.proofs.Math.ListN.{set}
use Rattle.std.proofs.lemmas.List.{get_or_read}
use Rattle.grid_cells.specs.Grid.{flag_index}
use Rattle.cell_queue.specs.Heap.{keys_of}
use Rattle.cell_queue.proofs.HeapKeys.{room_left, IsSynced-grow, keys_of-grow, keys_of-change}
use Rattle.cell_queue.proofs.heaps.Heap.put.Goals as goal

pub lay-requires-clause-room : goal.lay-requires-clause-room
lay-requires-clause-room c =
    let n_in : c.index-index.result < length c.args.self.now.places.items = omega (arith, c.requires.heap.synced.one_place_each, c.index-index.ensures.bound) in
    let place : c.index.result.now ≡ slice_index c.args.self.now.places.items c.index-index.result = get_or_read c.args.self.now.places.items c.index-index.result c.index.result.now n_in c.index.ensures 0 in
    let out : c.args.self.now.len ≤ slice_index c.args.self.now.places.items c.index-index.result = omega (arith, place, c.if-place-self.false) in
    omega (arith, room_left c.args.self.now.size c.args.self.now.cells.items c.args.self.now.keys.items c.args.self.now.places.items c.args.self.now.len c.index-index.result c.requires.heap.synced c.index-index.ensures.bound out, c.requires.heap.room.cells)

pub lay-requires-else-place-self-clause-room : goal.lay-requires-else-place-self-clause-room
lay-requires-else-place-self-clause-room c =
    let n_in : c.index-index.result < length c.args.self.now.places.items = omega (arith, c.requires.heap.synced.one_place_each, c.index-index.ensures.bound) in
    let place : c.index.result.now ≡ slice_index c.args.self.now.places.items c.index-index.result = get_or_read c.args.self.now.places.items c.index-index.result c.index.result.now n_in c.index.ensures 0 in
    let out : c.args.self.now.len ≤ slice_index c.args.self.now.places.items c.index-index.result = omega (arith, place, c.if-place-self.false) in
    omega (arith, room_left c.args.self.now.size c.args.self.now.cells.items c.args.self.now.keys.items c.args.self.now.places.items c.args.self.now.len c.index-index.result c.requires.heap.synced c.index-index.ensures.bound out, c.requires.heap.room.keys)

pub rise-requires-clause-synced : goal.rise-requires-clause-synced
rise-requires-clause-synced c =
    let n_in : c.index-index.result < length c.args.self.now.places.items = omega (arith, c.requires.heap.synced.one_place_each, c.index-index.ensures.bound) in
    let place : c.index.result.now ≡ slice_index c.args.self.now.places.items c.index-index.result = get_or_read c.args.self.now.places.items c.index-index.result c.index.result.now n_in c.index.ensures 0 in
    let out : c.args.self.now.len ≤ slice_index c.args.self.now.places.items c.index-index.result = omega (arith, place, c.if-place-self.false) in
    IsSynced-grow c.args.self.now.size c.args.self.now.cells.items c.lay.new.list.items c.args.self.now.keys.items c.lay-else-place-self.new.list.items c.args.self.now.places.items c.args.self.now.len c.index-index.result c.args.key c.args.cell c.requires.heap.synced c.requires.held c.index-index.ensures.is out c.lay.ensures.laid c.lay-else-place-self.ensures.laid

pub returns-then-place-self-clause-keys : goal.returns-then-place-self-clause-keys
returns-then-place-self-clause-keys c =
    let n_in : c.index-index.result < length c.args.self.now.places.items = omega (arith, c.requires.heap.synced.one_place_each, c.index-index.ensures.bound) in
    let place : c.index.result.now ≡ slice_index c.args.self.now.places.items c.index-index.result = get_or_read c.args.self.now.places.items c.index-index.result c.index.result.now n_in c.index.ensures 0 in
    let inside : slice_index c.args.self.now.places.items c.index-index.result < c.args.self.now.len = omega (arith, place, c.if-place-self.true) in
    let changed : keys_of c.args.self.now.places.items (set c.args.self.now.keys.items c.index.result.now c.args.key) c.args.self.now.len ≡ set (keys_of c.args.self.now.places.items c.args.self.now.keys.items c.args.self.now.len) (flag_index c.args.self.now.size c.args.cell) (Some c.args.key) =
    rw (place, ← c.index-index.ensures.is) (keys_of-change c.args.self.now.size c.args.self.now.cells.items c.args.self.now.keys.items c.args.self.now.places.items c.args.self.now.len c.index-index.result c.args.key c.requires.heap.synced c.index-index.ensures.bound inside) in
    c.settle.ensures.shuffled.keys ∙ changed

pub returns-else-place-self-clause-keys : goal.returns-else-place-self-clause-keys
returns-else-place-self-clause-keys c = grind (arith, nat_tests, common_steps, get_or_read, keys_of-grow)
