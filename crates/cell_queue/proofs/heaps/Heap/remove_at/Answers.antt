use Rattle.std.proofs.Common.{arith, ◌≡◌, ◌-◌, ◌∙◌}
use Rattle.cell_queue.specs.Heap.{IsLoose}
use Rattle.cell_queue.proofs.HeapOrder.{IsLoose-last}
use Rattle.cell_queue.proofs.heaps.Heap.remove_at.Goals as goal

pub settle-requires-clause-loose : goal.settle-requires-clause-loose
settle-requires-clause-loose c =
    let last : c.remove_last.new.self.len ≡ c.args.self.now.len - 1 = omega (arith, c.remove_last.ensures.len, c.swap.ensures.shuffled.len) in
    rw (c.remove_last.ensures.order, last, c.swap.ensures.keys) (IsLoose-last c.args.self.now.keys.items c.args.self.now.len c.args.place c.requires.heap.ordered c.requires.heap.synced.keys_far c.requires.place)

pub returns-then-place-last-clause-keys : goal.returns-then-place-last-clause-keys
returns-then-place-last-clause-keys c =
    let last : c.remove_last.new.self.len ≡ c.args.self.now.len - 1 = omega (arith, c.remove_last.ensures.len, c.swap.ensures.shuffled.len) in
    c.settle.ensures.shuffled.keys ∙ cc (c.remove_last.ensures.keys, c.swap.ensures.moved, c.swap.ensures.shuffled.keys, last)

pub returns-else-place-last-clause-keys : goal.returns-else-place-last-clause-keys
returns-else-place-last-clause-keys c =
    let last : c.remove_last.new.self.len ≡ c.args.self.now.len - 1 = omega (arith, c.remove_last.ensures.len, c.swap.ensures.shuffled.len) in
    cc (c.remove_last.ensures.keys, c.swap.ensures.moved, c.swap.ensures.shuffled.keys, last)

pub returns-else-place-last-clause-heap : goal.returns-else-place-last-clause-heap
returns-else-place-last-clause-heap c =
    let last : c.remove_last.new.self.len ≡ c.args.self.now.len - 1 = omega (arith, c.remove_last.ensures.len, c.swap.ensures.shuffled.len) in
    let loose : IsLoose c.remove_last.new.self.keys.items c.remove_last.new.self.len c.args.place =
    rw (c.remove_last.ensures.order, last, c.swap.ensures.keys) (IsLoose-last c.args.self.now.keys.items c.args.self.now.len c.args.place c.requires.heap.ordered c.requires.heap.synced.keys_far c.requires.place) in
    record {
      synced = c.remove_last.ensures.synced;
      room = c.remove_last.ensures.room (c.swap.ensures.room c.requires.heap.room);
      ordered = λ p child is_child lt. loose.others p child is_child lt (omega (arith, is_child.0, c.if-place-last.false)) (omega (arith, c.if-place-last.false));
    }
