use Rattle.std.proofs.Common.{◌≡◌, ◌++◌, length}
use Rattle.std.specs.Vec.Iter.{into_iter_items}
use Rattle.desk_commits.specs.State.{after}
use Rattle.desk_commits.specs.Replays.{IsLegal}
use Rattle.desk_core.proofs.replaying.commit_all.Given as goal

abbrev pub invariant-loop-entry : goal.invariant-loop-entry
invariant-loop-entry l = record {
  can : (goal.iterator-loop-entry).can_next l.entry-iterator;
  finite : (goal.iterator-loop-entry).is_finite l.entry-iterator;
  all : l.yielded ++ into_iter_items l.entry-iterator ≡ l.fn.entries.items;
  legal : IsLegal l.fn.desk l.yielded;
  now : l.desk ≡ after l.fn.desk l.yielded;
  counted : l.number ≡ length l.yielded;
}
