use Rattle.std.proofs.Common.{◌≡◌, ◌*◌, ◌++◌, map, take, drop}
use Rattle.bench_reader.specs.MapSpelling.{letter_of}
use Rattle.bench_reader.proofs.writer.write_row.Given as goal

abbrev pub invariant-loop-col : goal.invariant-loop-col
invariant-loop-col l = l.text.items ≡ l.fn.text.items ++ map letter_of (take l.col (drop (l.row * l.grid.size.width) l.grid.flags))
