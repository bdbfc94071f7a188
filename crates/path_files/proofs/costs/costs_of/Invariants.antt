use Rattle.std.proofs.Common.{◌≡◌, ◌+◌, ◌≤◌, length}
use Rattle.bench_reader.specs.Lines.{lines_of}
use Rattle.path_files.specs.Lines.{without_mark, written_from}
use Rattle.path_files.specs.Costs.{costs_from, no_costs}
use Rattle.path_files.proofs.costs.costs_of.Given as goal

abbrev pub invariant-loop-line : goal.invariant-loop-line
invariant-loop-line l = record {
  so_far : costs_from no_costs (written_from 1 (lines_of (without_mark l.text))) ≡ costs_from l.costs (written_from l.number (lines_of l.rest));
  room : l.number + length l.rest ≤ 1 + length l.text;
}

abbrev pub decreases-loop-line : goal.decreases-loop-line
decreases-loop-line l = length l.rest
