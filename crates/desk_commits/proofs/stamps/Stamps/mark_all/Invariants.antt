use Rattle.std.proofs.Common.{take}
use Rattle.desk_commits.specs.Stamps.{AreMarked}
use Rattle.desk_commits.proofs.stamps.Stamps.mark_all.Given as goal

abbrev pub invariant-loop-edit : goal.invariant-loop-edit
invariant-loop-edit l = AreMarked l.fn.self (take l.edit-index l.edits) l.number l.self
