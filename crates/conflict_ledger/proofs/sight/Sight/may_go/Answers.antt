use Rattle.std.proofs.Common.{inl, inr, sym, ◌∙◌}
use mathlib.Core.Bool.{false≢true}
use Rattle.conflict_ledger.proofs.Sighted.{goes_shown}
use Rattle.conflict_ledger.proofs.sight.Sight.may_go.Goals as goal

pub returns-else-goes : goal.returns-else-goes
returns-else-goes c fleet shows g = elim (goes_shown _ _ _ fleet shows c.args.time c.args.way g) [
  | inl base ↦ absurd (false≢true (sym c.if-goes.false ∙ (rw c.new.ensures at (c.goes.ensures shows.base shows.stands)).1 base))
  | inr own ↦ c.own_goes.ensures own.0 own.1 (own.2, own.3) ∙ own.4
]
