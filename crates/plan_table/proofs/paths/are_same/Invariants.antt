use Rattle.std.proofs.Common.{◌≡◌}
use Rattle.std.specs.Prelude.{take, IsTrue, ◌↔◌}
use Rattle.plan_table.proofs.paths.are_same.Given as goal

abbrev pub invariant-loop-at : goal.invariant-loop-at
invariant-loop-at l = IsTrue l.same ↔ (take l.at l.one ≡ take l.at l.other)
