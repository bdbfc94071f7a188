use Rattle.std.proofs.Common.{◌≡◌, ◌+◌, ◌≤◌, [], length}
use Rattle.bench_reader.specs.Lines.{lines_of}
use Rattle.scene_edits.specs.declared.scenes.TheConstants.{MOST_AGENTS}
use Rattle.path_files.specs.Lines.{written_from}
use Rattle.path_files.specs.Moves.{rows_from}
use Rattle.path_files.proofs.moves.read_rows.Given as goal

abbrev pub invariant-loop-line : goal.invariant-loop-line
invariant-loop-line l = record {
  so_far : rows_from l.flipped [] (written_from l.first (lines_of l.text)) ≡ rows_from l.flipped l.paths.items (written_from l.number (lines_of l.rest));
  room : l.number + length l.rest ≤ l.first + length l.text;
  few : length l.paths.items ≤ MOST_AGENTS;
}

abbrev pub decreases-loop-line : goal.decreases-loop-line
decreases-loop-line l = length l.rest
