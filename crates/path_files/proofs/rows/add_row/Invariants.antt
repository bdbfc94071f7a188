use Rattle.std.proofs.Common.{◌≡◌, ◌≤◌, length, take}
use Rattle.path_files.specs.Rows.{paths_with_row}
use Rattle.path_files.proofs.rows.add_row.Given as goal

abbrev pub invariant-loop-agent : goal.invariant-loop-agent
invariant-loop-agent l = record {
  so_far : l.paths.items ≡ paths_with_row l.fn.paths.items (take l.agent l.row);
  reached : l.agent ≤ length l.paths.items;
}
