use Rattle.std.proofs.Common.{◌≡◌, ◌+◌, ◌≤◌, length}
use Rattle.bench_reader.specs.Lines.{lines_of}
use Rattle.path_files.specs.Lines.{written_from}
use Rattle.path_files.specs.Forms.{has_paths}
use Rattle.path_files.proofs.forms.has_paths.Given as goal

abbrev pub invariant-loop-line : goal.invariant-loop-line
invariant-loop-line l = record {
  so_far : has_paths l.form (written_from l.first (lines_of l.text)) ≡ has_paths l.form (written_from l.number (lines_of l.rest));
  room : l.number + length l.rest ≤ l.first + length l.text;
}

abbrev pub decreases-loop-line : goal.decreases-loop-line
decreases-loop-line l = length l.rest
