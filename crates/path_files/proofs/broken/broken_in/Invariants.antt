use Rattle.std.proofs.Common.{◌≡◌, ◌+◌, ◌≤◌, drop}
use Rattle.path_files.specs.Broken.{broken_from, broken_in}
use Rattle.path_files.proofs.broken.broken_in.Given as goal

abbrev pub invariant-loop-byte : goal.invariant-loop-byte
invariant-loop-byte l = record {
  so_far : broken_in l.text ≡ broken_from l.due l.closing.items l.line l.column (drop l.byte-index l.text);
  lines : l.line ≤ l.byte-index + 1;
  columns : l.column ≤ l.byte-index;
}
