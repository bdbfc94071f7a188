use Rattle.std.proofs.Common.{arith, ap, refl, subst, sym, ◌≡◌, ◌<◌, ◌∙◌, length}
use Rattle.std.proofs.lemmas.List.{get_or_read}
use Rattle.std.proofs.Math.ListN.{length-set}
use Rattle.grid_cells.specs.Cell.{Point}
use Rattle.grid_cells.specs.Size.{Holds}
use Rattle.grid_cells.specs.Grid.{flag_index}
use Rattle.cell_queue.specs.Heap.{number_in}
use Rattle.cell_queue.proofs.HeapSync.{number_read, moved, IsSynced-swap, keys_of-swap, same_count_of}
use Rattle.cell_queue.proofs.heaps.Heap.swap.Goals as goal

pub returns-clause-shuffled : goal.returns-clause-shuffled
returns-clause-shuffled c =
    let old = c.args.self.now in
    let cells = c.swap.new.self.items in
    let keys = c.swap-2.new.self.items in
    let first : c.index-2.result ≡ number_in old.size old.cells.items c.args.j =
    number_read old.size cells c.args.i c.index-2.result c.index.result.now (omega (arith, c.requires.synced.cells_far, c.requires.first, c.swap.ensures.len)) c.index.ensures c.index-2.ensures.is
    ∙ ap (λ (v : Point). flag_index old.size v) (c.swap.ensures.by_index.0 (record { x = 0; y = 0 })) in
    let second : c.index-4.result ≡ number_in old.size old.cells.items c.args.i =
    number_read old.size cells c.args.j c.index-4.result c.index-3.result.now (omega (arith, c.requires.synced.cells_far, c.requires.second, c.swap.ensures.len)) c.index-3.ensures c.index-4.ensures.is
    ∙ ap (λ (v : Point). flag_index old.size v) (c.swap.ensures.by_index.1 (record { x = 0; y = 0 })) in
    let m = moved old.size old.cells.items cells old.keys.items old.places.items old.len c.args.i c.args.j c.requires.synced c.requires.first c.requires.second c.swap.ensures.by_index in
    record {
      size = refl;
      len = refl;
      keys = rw (first, second)
          (keys_of-swap old.size old.cells.items cells old.keys.items keys old.places.items _ old.len c.args.i c.args.j c.requires.synced c.requires.first c.requires.second
          (simp length-set) m (record { first = c.swap-2.ensures.by_index.0 0; second = c.swap-2.ensures.by_index.1 0; rest = λ x. c.swap-2.ensures.by_index.2 x 0 }));
      synced = rw (first, second)
          (IsSynced-swap old.size old.cells.items cells old.keys.items keys old.places.items _ old.len c.args.i c.args.j c.requires.synced c.requires.first c.requires.second
          (omega (arith, c.swap.ensures.len)) (omega (arith, c.swap-2.ensures.len)) (simp length-set)
          (same_count_of old.size old.cells.items old.keys.items old.places.items old.len c.args.i c.args.j c.requires.synced c.requires.first c.requires.second) m);
    }

pub returns-clause-moved : goal.returns-clause-moved
returns-clause-moved c = ap (λ (v : Point). flag_index c.args.self.now.size v) (c.swap.ensures.by_index.1 (record { x = 0; y = 0 }))

pub returns-clause-keys : goal.returns-clause-keys
returns-clause-keys c = c.swap-2.ensures.by_index.3 0

pub index-requires-2 : goal.index-requires-2
index-requires-2 c =
    let inside : c.args.i < length c.swap.new.self.items = omega (arith, c.requires.synced.cells_far, c.requires.first, c.swap.ensures.len) in
    let cell = get_or_read c.swap.new.self.items c.args.i c.index.result.now inside c.index.ensures (record { x = 0; y = 0 }) ∙ c.swap.ensures.by_index.0 (record { x = 0; y = 0 }) in
    subst (Holds c.args.self.now.size) (sym cell) (c.requires.synced.held c.args.j c.requires.second)

pub index-requires-4 : goal.index-requires-4
index-requires-4 c =
    let inside : c.args.j < length c.swap.new.self.items = omega (arith, c.requires.synced.cells_far, c.requires.second, c.swap.ensures.len) in
    let cell = get_or_read c.swap.new.self.items c.args.j c.index-3.result.now inside c.index-3.ensures (record { x = 0; y = 0 }) ∙ c.swap.ensures.by_index.1 (record { x = 0; y = 0 }) in
    subst (Holds c.args.self.now.size) (sym cell) (c.requires.synced.held c.args.i c.requires.first)
