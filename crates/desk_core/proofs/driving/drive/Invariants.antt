use Rattle.std.proofs.Common.{◌≡◌, ◌+◌, ◌≤◌, ◌++◌, length}
use Rattle.std.specs.Prelude.{vec_capacity}
use Rattle.std.specs.Vec.Iter.{into_iter_items}
use Rattle.desk_commits.specs.Runs.{IsRun}
use Rattle.desk_core.proofs.driving.drive.Given as goal

abbrev pub invariant-loop-call : goal.invariant-loop-call
invariant-loop-call l = record {
  can : (goal.iterator-loop-call).can_next l.call-iterator;
  finite : (goal.iterator-loop-call).is_finite l.call-iterator;
  all : l.yielded ++ into_iter_items l.call-iterator ≡ l.fn.calls.items;
  run : IsRun l.fn.desk l.yielded l.answers.items l.desk;
  room : length l.answers.items + length (into_iter_items l.call-iterator) ≤ vec_capacity l.answers;
}
