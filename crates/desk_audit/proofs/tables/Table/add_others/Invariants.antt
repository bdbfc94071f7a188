use Rattle.std.proofs.Common.{◌+◌, Contains, length}
use Rattle.std.specs.Option.{option_map_or}
use Rattle.desk_audit.specs.Filing.{bucket_of}
use Rattle.desk_audit.specs.declared.tables.Pass.{Pass}
use Rattle.desk_audit.proofs.Chains.{Walked, Gathers}
use Rattle.desk_audit.proofs.tables.Table.add_others.Given as goal

abbrev pub invariant-loop-next : goal.invariant-loop-next
invariant-loop-next l = record {
  walk : Walked l.self (bucket_of (length l.self.heads.items) l.cell l.number) l.next (Gathers l.cell l.number l.agent l.found.items);
  keeps : (pass : Pass) → Contains l.initial.found.items pass → Contains l.found.items pass;
}

abbrev pub decreases-loop-next : goal.decreases-loop-next
decreases-loop-next l = option_map_or (λ place. place + 1) l.next 0
