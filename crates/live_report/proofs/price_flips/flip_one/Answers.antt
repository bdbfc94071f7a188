use Rattle.std.proofs.lemmas.Result.{IfOk-weaker}
use Rattle.live_report.proofs.price_flips.flip_one.Goals as goal

pub returns-clause-stands : goal.returns-clause-stands
returns-clause-stands c = IfOk-weaker c.flip_at.result _ _ (λ ledger flipped mode old new books. flipped old new (rw c.deref.ensures.value (c.in-Ok.ensures mode c.args.costs.rows books))) c.flip_at.ensures.stands
