use Rattle.std.proofs.Common.{◌+◌, length}
use Rattle.std.specs.Option.{option_map_or}
use Rattle.desk_audit.specs.Filing.{bucket_of}
use Rattle.desk_audit.proofs.Chains.{Walked, IsApart}
use Rattle.desk_audit.proofs.tables.Table.has.Given as goal

abbrev pub invariant-loop-next : goal.invariant-loop-next
invariant-loop-next l = Walked l.self (bucket_of (length l.self.heads.items) l.cell l.number) l.next (IsApart l.cell l.number)

abbrev pub decreases-loop-next : goal.decreases-loop-next
decreases-loop-next l = option_map_or (λ place. place + 1) l.next 0
