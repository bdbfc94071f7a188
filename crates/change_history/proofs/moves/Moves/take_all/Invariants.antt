use Rattle.std.proofs.Common.{take}
use Rattle.change_history.specs.Moved.{Follows, LosesAll}
use Rattle.change_history.proofs.moves.Moves.take_all.Given as goal

abbrev pub invariant-loop-item : goal.invariant-loop-item
invariant-loop-item g l = record {
  loses : LosesAll l.initial.set.keys l.set.keys (take l.item-index l.items);
  follows : Follows l.initial.set.keys l.set.keys l.initial.self l.self;
}
