use Rattle.std.proofs.Common.{subst}
use Rattle.plan_table.specs.Route.{route_of}
use Rattle.conflict_ledger.specs.Spans.{Fits}
use Rattle.conflict_ledger.proofs.Sighted.{own_last}
use Rattle.conflict_ledger.proofs.changes.share_of.Goals as goal

pub returns : goal.returns
returns c out into hides shows fits = record {
  are = c.in_ok-entries.ensures into shows (subst (Fits c.args.span.now) (own_last _ _ (route_of c.args.track) into shows) fits);
  broken_only = rw c.deref.ensures.value at (c.in_ok-broken.ensures.only out hides);
  broken_has = rw c.deref.ensures.value at (c.in_ok-broken.ensures.has out into hides shows);
  joined_only = rw c.deref-2.ensures.value at (c.in_ok-joined.ensures.only into shows);
  joined_has = rw c.deref-2.ensures.value at (c.in_ok-joined.ensures.has into into shows shows);
}
