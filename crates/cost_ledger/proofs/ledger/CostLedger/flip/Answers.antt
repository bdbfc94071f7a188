use Rattle.std.proofs.lemmas.Result.{IfOk-weaker}
use Rattle.cost_ledger.proofs.ledger.CostLedger.flip.Goals as goal

pub returns-clause-stands : goal.returns-clause-stands
returns-clause-stands c = IfOk-weaker c.flip_at.result _ _ (λ ledger flipped old new stands. flipped old new (rw (c.deref.ensures.value, ← c.self.view_is) c.in-Ok.ensures) stands) c.flip_at.ensures.stands
