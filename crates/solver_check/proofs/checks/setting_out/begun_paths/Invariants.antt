use Rattle.std.proofs.Common.{◌≡◌, ◌+◌, ◌≤◌, ◌++◌, length}
use Rattle.std.specs.Vec.Iter.{into_iter_items, into_iter_len}
use Rattle.scene_edits.specs.declared.scenes.TheConstants.{MOST_AGENTS}
use Rattle.solver_check.specs.CheckEdits.{begun_from}
use Rattle.solver_check.proofs.checks.setting_out.begun_paths.Given as goal

abbrev pub invariant-loop-path : goal.invariant-loop-path
invariant-loop-path l = record {
  can_next : (goal.iterator-loop-path).can_next l.path-iterator;
  is_finite : (goal.iterator-loop-path).is_finite l.path-iterator;
  counted : into_iter_len l.path-iterator ≡ length (into_iter_items l.path-iterator);
  few : l.number + length (into_iter_items l.path-iterator) ≤ MOST_AGENTS;
  begun_so_far : length l.begun.items ≡ l.number;
  so_far : l.begun.items ++ begun_from l.scene l.number (into_iter_items l.path-iterator) ≡ begun_from l.scene 0 l.fn.paths;
}
