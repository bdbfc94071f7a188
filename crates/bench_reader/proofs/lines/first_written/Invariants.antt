use Rattle.std.proofs.Common.{◌+◌, ◌≤◌, length}
use Rattle.bench_reader.specs.Lines.{lines_of}
use Rattle.bench_reader.proofs.LineLemmas.{BlankSoFar}
use Rattle.bench_reader.proofs.lines.first_written.Given as goal

abbrev pub invariant-loop-content : goal.invariant-loop-content
invariant-loop-content l = record {
  so_far : BlankSoFar (lines_of l.text) (lines_of l.rest) l.first l.line;
  room : l.line + length l.rest ≤ l.first + length l.text;
}

abbrev pub decreases-loop-content : goal.decreases-loop-content
decreases-loop-content l = length l.rest
