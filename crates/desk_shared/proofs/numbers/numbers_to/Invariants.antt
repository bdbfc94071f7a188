use Rattle.std.proofs.Common.{◌≡◌, length}
use Rattle.desk_shared.specs.Calls.{HasNumbers}
use Rattle.desk_shared.proofs.numbers.numbers_to.Given as goal

abbrev pub invariant-loop-number : goal.invariant-loop-number
invariant-loop-number l = record { sized : length l.unused ≡ 256; has : HasNumbers l.number l.unused }
