use Rattle.std.proofs.Common.{◌≡◌, ◌||◌, Bool, sym, subst}
use Rattle.std.proofs.Math.Bool.{or-false}
use Rattle.single_runs.proofs.Unserved.{desk_unserved}
use Rattle.single_runs.proofs.auditing.run_audit.Goals as goal

pub returns-in-Err-clause-broken : goal.returns-in-Err-clause-broken
returns-in-Err-clause-broken g c =
    let unwritten = (desk_unserved _ _ _ _ _ _ _ c.in-Err.ensures.refused).1 in
    subst (λ (b : Bool). g.W.Sink.broken c.args.writer.now ≡ (g.W.Sink.broken c.args.writer.now || b)) (sym unwritten) (sym (or-false _))
