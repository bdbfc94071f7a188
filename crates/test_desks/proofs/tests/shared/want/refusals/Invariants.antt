use Rattle.desk_shared.specs.Passes.{Owns}
use Rattle.test_desks.proofs.tests.shared.want.refusals.Given as goal

abbrev pub invariant-loop-step : goal.invariant-loop-step
invariant-loop-step g l = Owns l.shared l.pass
