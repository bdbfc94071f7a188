use Rattle.std.proofs.Common.{◌≡◌, ℕ, ◌<◌, get_or}
use Rattle.where_index.specs.declared.moves.Move.{Move}
use Rattle.conflict_ledger.proofs.movers.first_other.Given as goal

abbrev pub invariant-loop-next : goal.invariant-loop-next
invariant-loop-next l = (k : ℕ) (d : Move) → k < l.next-index → (get_or l.moves k d).agent ≡ l.agent
