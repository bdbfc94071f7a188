use Rattle.std.proofs.Common.{◌≡◌, length}
use Rattle.desk_io.proofs.tallies.Tallies.new.Given as goal

abbrev pub invariant-loop : goal.invariant-loop
invariant-loop l = length l.each.items ≡ l.counter
