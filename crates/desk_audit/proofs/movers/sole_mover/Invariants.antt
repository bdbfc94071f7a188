use Rattle.std.proofs.Common.{◌+◌, length}
use Rattle.std.specs.Prelude.{IfSome}
use Rattle.std.specs.Option.{option_map_or}
use Rattle.plan_table.specs.Route.{tracks_of}
use Rattle.mapf_rules.specs.Cycles.{MovesOut}
use Rattle.desk_audit.specs.Filing.{bucket_of}
use Rattle.desk_audit.proofs.Chains.{Walked}
use Rattle.desk_audit.proofs.Soles.{Tells}
use Rattle.desk_audit.proofs.movers.sole_mover.Given as goal

abbrev pub invariant-loop-next : goal.invariant-loop-next
invariant-loop-next l = record {
  walk : Walked l.moments (bucket_of (length l.moments.heads.items) l.cell l.time) l.next (Tells (tracks_of l.mode l.plans.rows) l.time l.cell l.found);
  moves : IfSome l.found (λ a. MovesOut (tracks_of l.mode l.plans.rows) l.time a l.cell);
}

abbrev pub decreases-loop-next : goal.decreases-loop-next
decreases-loop-next l = option_map_or (λ place. place + 1) l.next 0
