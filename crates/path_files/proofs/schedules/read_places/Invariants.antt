use Rattle.std.proofs.Common.{◌≡◌, ◌+◌, ◌≤◌, length}
use Rattle.bench_reader.specs.Lines.{lines_of}
use Rattle.path_files.specs.Lines.{written_from}
use Rattle.path_files.specs.ScheduleSteps.{IsWithin, no_schedule}
use Rattle.path_files.specs.Schedules.{schedule_from}
use Rattle.path_files.proofs.schedules.read_places.Given as goal

abbrev pub invariant-loop-line : goal.invariant-loop-line
invariant-loop-line l = record {
  so_far : schedule_from no_schedule (written_from l.first (lines_of l.text)) ≡ schedule_from l.schedule (written_from l.number (lines_of l.rest));
  room : l.number + length l.rest ≤ l.first + length l.text;
  timed : l.schedule.time + length l.rest ≤ length l.text;
  within : IsWithin l.schedule;
}

abbrev pub decreases-loop-line : goal.decreases-loop-line
decreases-loop-line l = length l.rest
