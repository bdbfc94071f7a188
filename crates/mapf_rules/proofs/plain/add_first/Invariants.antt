use Rattle.mapf_rules.specs.Finding.{fleet_of, Adds, StandsOfPair}
use Rattle.mapf_rules.proofs.Adds.{SoughtBelow}
use Rattle.mapf_rules.proofs.plain.add_first.Given as goal

abbrev pub invariant-loop-rank : goal.invariant-loop-rank
invariant-loop-rank l = Adds (SoughtBelow l.table.plans.now.rows (StandsOfPair (fleet_of l.table) l.time l.first) l.rank) l.initial.entries.items l.entries.items
