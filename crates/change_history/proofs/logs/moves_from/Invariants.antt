use Rattle.std.proofs.Common.{List, take, drop}
use Rattle.change_history.specs.Moved.{Tell}
use Rattle.change_history.specs.Leading.{Lead}
use Rattle.change_history.proofs.logs.moves_from.Given as goal

abbrev pub invariant-loop-place : goal.invariant-loop-place
invariant-loop-place g l = (old new : List g.row.T.Denot) → Lead (take l.place (drop l.start l.records.items)) old new → Tell old new l.moves
