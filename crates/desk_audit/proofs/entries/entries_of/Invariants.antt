use Rattle.plan_table.specs.Route.{tracks_of}
use Rattle.desk_audit.specs.Parts.{AreEntriesOf}
use Rattle.desk_audit.proofs.entries.entries_of.Given as goal

abbrev pub invariant-loop-rank : goal.invariant-loop-rank
invariant-loop-rank l = AreEntriesOf (tracks_of l.mode l.plans.rows) l.plans.rows l.from l.rank l.entries.items
