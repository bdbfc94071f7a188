use Rattle.std.proofs.Common.{◌≡◌, drop}
use Rattle.solver_check.specs.Wrongs.{wrong_from}
use Rattle.solver_check.proofs.checks.wrongs.wrong_from.Given as goal

abbrev pub invariant-loop-time : goal.invariant-loop-time
invariant-loop-time l = wrong_from l.size l.agent l.time l.before (drop l.time l.path) ≡ wrong_from l.size l.agent 0 l.fn.start l.path
