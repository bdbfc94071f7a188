use Rattle.std.proofs.lemmas.Option.{MatchOption-at_some}
use Rattle.mapf_rules.specs.Cycles.{IsRingAt}
use Rattle.conflict_ledger.proofs.ledger.ConflictLedger.ring_at.Goals as goal

pub returns : goal.returns
returns c fleet stands ring = (
  λ e. rw (← c.number-2.ensures) (MatchOption-at_some _ (IsRingAt fleet c.number-2.result c.args.cell) ring e (c.in_ok-found.ensures.ring fleet stands)),
  λ is. c.in_ok-found.ensures.only fleet ring stands (rw c.number-2.ensures is),
)
