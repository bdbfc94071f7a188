use Rattle.std.proofs.Common.{◌≡◌, ◌++◌, take, drop, map}
use Rattle.desk_c.specs.Numbers.{entry_numbers}
use Rattle.desk_c.proofs.numbers.copy_front.Given as goal

abbrev pub invariant-loop-index : goal.invariant-loop-index
invariant-loop-index l = l.room ≡ take l.index (map entry_numbers l.entries) ++ drop l.index l.initial.room
