use Rattle.std.proofs.Common.{◌≡◌, ◌++◌, drop}
use Rattle.solver_check.specs.Wrongs.{wrongs_from, wrongs_of}
use Rattle.solver_check.proofs.checks.wrongs.wrongs_of.Given as goal

abbrev pub invariant-loop-number : goal.invariant-loop-number
invariant-loop-number l =
    l.wrongs.items ++ wrongs_from l.bare l.scene l.spelled l.number (drop l.number l.spelled.paths) ≡ wrongs_of l.bare l.scene l.spelled
