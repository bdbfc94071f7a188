use Rattle.std.proofs.Common.{length, None}
use Rattle.plan_table.specs.Route.{tracks_of}
use Rattle.desk_audit.specs.Filing.{bucket_of}
use Rattle.desk_audit.proofs.Chains.{Walked}
use Rattle.desk_audit.proofs.Soles.{Tells, all_found, sole_found}
use Rattle.desk_audit.proofs.movers.sole_mover.Goals as goal

pub returns-clause-sole : goal.returns-clause-sole
returns-clause-sole c =
    let moments = c.args.moments.now in
    let fleet = tracks_of c.args.mode c.args.plans.now.rows in
    let walk : Walked moments (bucket_of (length moments.heads.items) c.args.cell c.args.time) None (Tells fleet c.args.time c.args.cell c.loop-next.found) = rw c.in_default.is at c.loop-next.invariant.walk in
    sole_found fleet moments c.args.time c.args.cell c.loop-next.found c.requires.seen walk c.loop-next.invariant.moves

pub returns-clause-only : goal.returns-clause-only
returns-clause-only c agent sole =
    let moments = c.args.moments.now in
    let fleet = tracks_of c.args.mode c.args.plans.now.rows in
    let walk : Walked moments (bucket_of (length moments.heads.items) c.args.cell c.args.time) None (Tells fleet c.args.time c.args.cell c.loop-next.found) = rw c.in_default.is at c.loop-next.invariant.walk in
    all_found fleet moments c.args.time c.args.cell c.loop-next.found c.requires.seen walk agent sole.moves
