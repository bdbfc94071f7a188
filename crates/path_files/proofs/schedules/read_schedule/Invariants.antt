use Rattle.std.proofs.Common.{◌≡◌, ◌+◌, ◌≤◌, length}
use Rattle.bench_reader.specs.Lines.{lines_of}
use Rattle.path_files.specs.Lines.{written_from}
use Rattle.path_files.specs.Schedules.{by_schedule}
use Rattle.path_files.proofs.schedules.read_schedule.Given as goal

abbrev pub invariant-loop-line : goal.invariant-loop-line
invariant-loop-line l = record {
  so_far : by_schedule (written_from 1 (lines_of l.text)) ≡ by_schedule (written_from l.number (lines_of l.rest));
  room : l.number + length l.rest ≤ 1 + length l.text;
}

abbrev pub decreases-loop-line : goal.decreases-loop-line
decreases-loop-line l = length l.rest
