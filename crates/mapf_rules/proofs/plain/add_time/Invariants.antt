use Rattle.mapf_rules.specs.Finding.{fleet_of, Adds, StandsFirst}
use Rattle.mapf_rules.proofs.Adds.{SoughtBelow}
use Rattle.mapf_rules.proofs.plain.add_time.Given as goal

abbrev pub invariant-loop-rank : goal.invariant-loop-rank
invariant-loop-rank l = Adds (SoughtBelow l.table.plans.now.rows (StandsFirst (fleet_of l.table) l.time) l.rank) l.initial.entries.items l.entries.items
