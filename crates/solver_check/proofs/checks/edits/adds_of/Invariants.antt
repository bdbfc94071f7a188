use Rattle.std.proofs.Common.{◌≡◌, ◌++◌, drop}
use Rattle.solver_check.specs.CheckEdits.{adds_of, adds_from}
use Rattle.solver_check.proofs.checks.edits.adds_of.Given as goal

abbrev pub invariant-loop-number : goal.invariant-loop-number
invariant-loop-number l = l.edits.items ++ adds_from l.spelled l.number (drop l.number l.spelled.paths) ≡ adds_of l.spelled
