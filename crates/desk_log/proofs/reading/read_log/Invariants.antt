use Rattle.std.proofs.Common.{length}
use Rattle.desk_log.specs.Reading.{IsFrontOfLog}
use Rattle.desk_log.proofs.Found.{Found}
use Rattle.desk_log.proofs.Ahead.{Ahead}
use Rattle.desk_log.proofs.reading.read_log.Given as goal

abbrev pub invariant-entries : goal.invariant-entries
invariant-entries l = record {
  found : Found l.text l.head.mode l.head.scene l.rest l.journal.items l.check l.count;
  ahead : IsFrontOfLog l.text → Ahead l.rest l.check l.count;
}

abbrev pub decreases-entries : goal.decreases-entries
decreases-entries l = length l.rest
