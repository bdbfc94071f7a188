use Rattle.std.proofs.Common.{◌≡◌, ◌+◌, ◌≤◌, [], length}
use Rattle.std.specs.Vec.Iter.{into_iter_items, into_iter_len}
use Rattle.path_files.specs.Told.{all_from}
use Rattle.path_files.proofs.told.all_from.Given as goal

abbrev pub invariant-loop-place : goal.invariant-loop-place
invariant-loop-place l = record {
  can_next : (goal.iterator-loop-place).can_next l.place-iterator;
  is_finite : (goal.iterator-loop-place).is_finite l.place-iterator;
  counted : into_iter_len l.place-iterator ≡ length (into_iter_items l.place-iterator);
  few : length l.paths + length (into_iter_items l.place-iterator) ≤ length l.fn.told;
  reached : l.agent + length (into_iter_items l.place-iterator) ≤ length l.fn.told;
  so_far : all_from 0 [] l.fn.told ≡ all_from l.agent l.paths (into_iter_items l.place-iterator);
}
