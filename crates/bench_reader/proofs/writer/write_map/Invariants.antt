use Rattle.std.proofs.Common.{◌≡◌, ◌*◌, ◌-◌, ◌++◌, drop}
use Rattle.bench_reader.specs.MapSpelling.{spelled, row_lines, map_spelling}
use Rattle.bench_reader.proofs.writer.write_map.Given as goal

abbrev pub invariant-loop-row : goal.invariant-loop-row
invariant-loop-row l = l.text.items ++ spelled (row_lines l.grid.size.width (l.grid.size.height - l.row) (drop (l.row * l.grid.size.width) l.grid.flags)) ≡ map_spelling l.grid
