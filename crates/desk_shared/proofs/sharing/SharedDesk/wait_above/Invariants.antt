use Rattle.desk_shared.specs.Passes.{Owns}
use Rattle.desk_shared.proofs.Waiting.{IsRaised}
use Rattle.desk_shared.proofs.sharing.SharedDesk.wait_above.Given as goal

abbrev pub invariant-loop : goal.invariant-loop
invariant-loop g l = Owns l.fn.self l.pass × IsRaised l.fn.pass.known l.pass.known
