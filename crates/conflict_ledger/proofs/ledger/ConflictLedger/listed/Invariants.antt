use Rattle.std.proofs.Common.{◌≡◌, ◌++◌}
use Rattle.conflict_ledger.proofs.ledger.ConflictLedger.listed.Given as goal

abbrev pub invariant-loop-entry : goal.invariant-loop-entry
invariant-loop-entry l = l.entries.items ++ l.entry-iterator ≡ l.self
