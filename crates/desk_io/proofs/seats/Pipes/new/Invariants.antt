use Rattle.std.proofs.Common.{◌≡◌, length}
use Rattle.desk_io.proofs.seats.Pipes.new.Given as goal

abbrev pub invariant-loop-name : goal.invariant-loop-name
invariant-loop-name l = length l.doors.items ≡ l.name-index
