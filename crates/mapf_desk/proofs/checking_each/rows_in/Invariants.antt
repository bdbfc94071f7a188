use Rattle.std.proofs.Common.{◌≡◌, ◌++◌, Some, length, map}
use Rattle.std.specs.Vec.Iter.{into_iter_items, into_iter_len}
use Rattle.mapf_desk.proofs.checking_each.rows_in.Given as goal

abbrev pub invariant-loop-slot : goal.invariant-loop-slot
invariant-loop-slot l = record {
  can_next : (goal.iterator-loop-slot).can_next l.slot-iterator;
  is_finite : (goal.iterator-loop-slot).is_finite l.slot-iterator;
  counted : into_iter_len l.slot-iterator ≡ length (into_iter_items l.slot-iterator);
  so_far : map Some l.rows.items ++ into_iter_items l.slot-iterator ≡ l.fn.slots.items;
}
