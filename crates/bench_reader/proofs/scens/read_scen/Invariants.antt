use Rattle.std.proofs.Common.{◌+◌, ◌≤◌, drop, length}
use Rattle.bench_reader.specs.Lines.{lines_of}
use Rattle.bench_reader.proofs.ScenLemmas.{TasksSoFar}
use Rattle.bench_reader.proofs.scens.read_scen.Given as goal

abbrev pub invariant-loop-line : goal.invariant-loop-line
invariant-loop-line l = record {
  so_far : TasksSoFar l.size (drop 1 (lines_of l.text)) (lines_of l.rest) l.tasks.items l.number;
  room : l.number + length l.rest ≤ 2 + length l.text;
}

abbrev pub decreases-loop-line : goal.decreases-loop-line
decreases-loop-line l = length l.rest
