use Rattle.std.proofs.Common.{◌≡◌, ◌++◌, drop}
use Rattle.solver_check.specs.Differences.{differences_of, ends_from}
use Rattle.solver_check.proofs.checks.differences.differences_of.Given as goal

abbrev pub invariant-loop-number : goal.invariant-loop-number
invariant-loop-number l =
    l.found.items ++ ends_from l.scene l.spelled l.number (drop l.number l.spelled.paths) ≡ differences_of l.bare l.scene l.spelled
