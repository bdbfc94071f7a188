use Rattle.std.proofs.Common.{◌≡◌, take, map}
use Rattle.desk_c.specs.Numbers.{cell_numbers}
use Rattle.desk_c.proofs.numbers.cells_of.Given as goal

abbrev pub invariant-loop-numbers : goal.invariant-loop-numbers
invariant-loop-numbers l = map cell_numbers l.cells.items ≡ take l.numbers-index l.path
