use Rattle.std.proofs.Common.{◌≡◌, ◌≤◌, length}
use Rattle.bench_reader.specs.Lines.{lines_of}
use Rattle.bench_reader.proofs.RowLemmas.{RowsSoFar}
use Rattle.bench_reader.proofs.rows.read_rows.Given as goal

abbrev pub invariant-loop-row : goal.invariant-loop-row
invariant-loop-row l = record {
  size : l.grid.size ≡ l.fn.grid.size;
  count : length l.grid.flags ≡ length l.fn.grid.flags;
  so_far : RowsSoFar l.fn.grid.size.width (lines_of l.text) (lines_of l.rest) l.grid.flags l.row;
  shorter : length l.rest ≤ length l.text;
}
