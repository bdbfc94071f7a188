use Rattle.std.proofs.Common.{take}
use Rattle.desk_commits.specs.Stamps.{AreStamps}
use Rattle.desk_commits.proofs.stamps.Stamps.of.Given as goal

abbrev pub invariant-loop-index : goal.invariant-loop-index
invariant-loop-index l = AreStamps l.fn.size (take l.index l.journal) l.stamps
