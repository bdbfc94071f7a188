use Rattle.std.proofs.Common.{◌≡◌, ◌-◌, ◌≤◌, drop, take}
use Rattle.path_files.specs.Columns.{column_from, column_in}
use Rattle.path_files.proofs.columns.column_in.Given as goal

abbrev pub invariant-loop-at : goal.invariant-loop-at
invariant-loop-at l = record {
  so_far : column_in l.line ≡ column_from l.quoted l.column (take (l.at - l.front) (drop l.front l.line)) (drop l.at l.line);
  reached : l.front ≤ l.at;
  counted : l.column ≤ l.at;
}
