use Rattle.std.proofs.Common.{length, sym, ap, arith}
use Rattle.change_history.specs.Logged.{joined}
use Rattle.change_history.proofs.Parts.{joined-parts}
use Rattle.change_history.proofs.logs.Log.records.Goals as goal

pub returns-clause-is : goal.returns-clause-is
returns-clause-is g c =
    let whole = ap length (joined-parts c.self.inside.counts.items c.self.inside.records.items c.self.invariant) in
    let seen = ap (λ l. length (joined l)) c.self.view_is in
    omega (arith, c.len.ensures, c.self.inside.records.ok, whole, seen)

pub returns-clause-small : goal.returns-clause-small
returns-clause-small g c = omega (arith, c.len.ensures, c.self.inside.records.small)
