use Rattle.std.proofs.Common.{◌≡◌, length}
use Rattle.bench_reader.specs.Lines.{row_of}
use Rattle.bench_reader.proofs.lines.row_of.Given as goal

abbrev pub invariant-loop-row : goal.invariant-loop-row
invariant-loop-row l = row_of l.row ≡ row_of l.line

abbrev pub decreases-loop-row : goal.decreases-loop-row
decreases-loop-row l = length l.row
