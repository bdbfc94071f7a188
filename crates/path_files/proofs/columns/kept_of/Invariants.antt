use Rattle.std.proofs.Common.{◌≡◌, ◌≤◌, drop}
use Rattle.path_files.specs.Columns.{kept_from, kept_of}
use Rattle.path_files.proofs.columns.kept_of.Given as goal

abbrev pub invariant-loop-byte : goal.invariant-loop-byte
invariant-loop-byte l = record {
  so_far : kept_of l.column l.text ≡ kept_from l.column l.place l.kept.items (drop l.byte-index l.text);
  near : l.place.field ≤ l.byte-index;
}
