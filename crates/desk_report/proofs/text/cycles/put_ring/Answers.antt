use Rattle.std.proofs.Common.{ℕ, ◌∷◌}
use Rattle.std.specs.Prelude.{decimal}
use Rattle.desk_report.proofs.Fronts.{err-of}
use Rattle.desk_report.proofs.Lines.{front-item}
use Rattle.desk_report.proofs.text.cycles.put_ring.Goals as goal

pub returns-in_err-put_next-clause-err : goal.returns-in_err-put_next-clause-err
returns-in_err-put_next-clause-err g c =
    let stopped = rw c.agent.ensures at c.in_err-put_next.ensures.err in
    err-of c.from_residual.result (front-item (λ (agent : ℕ). 32 ∷ decimal agent) c.args.ring.now _ _ _ c.loop-agent.agent-index c.agent-item.result c.agent-item.is c.loop-agent-test.true c.loop-agent.invariant.out stopped)
