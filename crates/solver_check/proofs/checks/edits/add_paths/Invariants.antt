use Rattle.std.proofs.Common.{◌≡◌, ◌+◌, ◌≤◌, ◌++◌, length}
use Rattle.std.specs.Vec.Iter.{into_iter_items, into_iter_len}
use Rattle.scene_edits.specs.declared.scenes.TheConstants.{MOST_AGENTS}
use Rattle.solver_check.specs.CheckEdits.{paths_from}
use Rattle.solver_check.proofs.checks.edits.add_paths.Given as goal

abbrev pub invariant-loop-cells : goal.invariant-loop-cells
invariant-loop-cells l = record {
  can_next : (goal.iterator-loop-cells).can_next l.cells-iterator;
  is_finite : (goal.iterator-loop-cells).is_finite l.cells-iterator;
  counted : into_iter_len l.cells-iterator ≡ length (into_iter_items l.cells-iterator);
  few : l.number + length (into_iter_items l.cells-iterator) ≤ MOST_AGENTS;
  so_far : l.edits.items ++ paths_from l.number (into_iter_items l.cells-iterator) ≡ l.fn.edits.items ++ paths_from 0 l.fn.paths.items;
}
