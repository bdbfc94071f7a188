use Rattle.std.proofs.Common.{◌≡◌, ◌++◌, length}
use Rattle.std.specs.Option.{option_map}
use Rattle.bench_reader.specs.Words.{words_of}
use Rattle.session_lines.specs.Cells.{cells_of}
use Rattle.session_lines.proofs.cells.cells_of.Given as goal

abbrev pub invariant-loop-cell : goal.invariant-loop-cell
invariant-loop-cell l = cells_of (words_of l.line) ≡ option_map (λ more. l.cells.items ++ more) (cells_of (words_of l.rest))

abbrev pub decreases-loop-cell : goal.decreases-loop-cell
decreases-loop-cell l = length (words_of l.rest)
