use Rattle.std.proofs.Common.{◌≡◌, ◌+◌, ◌≤◌, [], length}
use Rattle.bench_reader.specs.Lines.{lines_of}
use Rattle.scene_edits.specs.declared.scenes.TheConstants.{MOST_AGENTS}
use Rattle.path_files.specs.Lines.{written_from}
use Rattle.path_files.specs.Told.{told_from}
use Rattle.path_files.proofs.told.read_places.Given as goal

abbrev pub invariant-loop-line : goal.invariant-loop-line
invariant-loop-line l = record {
  so_far : told_from l.form [] (written_from 1 (lines_of l.text)) ≡ told_from l.form l.told (written_from l.number (lines_of l.rest));
  room : l.number + length l.rest ≤ 1 + length l.text;
  few : length l.told ≤ MOST_AGENTS;
}

abbrev pub decreases-loop-line : goal.decreases-loop-line
decreases-loop-line l = length l.rest
