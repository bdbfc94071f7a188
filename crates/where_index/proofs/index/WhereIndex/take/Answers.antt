use Rattle.std.proofs.Common.{◌+◌, Some, None, arith}
use Rattle.plan_table.specs.Route.{route_of}
use Rattle.where_index.specs.Records.{nothing}
use Rattle.where_index.proofs.Standing.{same_past, stands_next}
use Rattle.where_index.proofs.index.WhereIndex.take.Goals as goal

pub change_records-changed-requires : goal.change_records-changed-requires
change_records-changed-requires c =
    let walkable = c.of-trail.ensures.path.walkable in
    record {
      range = omega arith;
      end = omega arith;
      same_before = λ t h. absurd (omega arith);
      same_after = λ t h. rw (c.none-nothing.ensures, c.of-trail.ensures.is) (same_past (route_of c.args.track) nothing (c.last-last.result + 1) t (omega (arith, walkable.some_cell, c.last-last.ensures.is)) (omega arith) h);
    }

pub returns-clause-stands : goal.returns-clause-stands
returns-clause-stands c = λ fleet has was.
    let g = rw (c.none-nothing.ensures, c.of-trail.ensures.is) at c.in-Ok.ensures in
    stands_next fleet c.args.agent (Some (route_of c.args.track)) None was _ _ None (rw (← c.self.view_is) at has) g.traffic g.tails c.remove.ensures.updates.0 tt (omega arith) (omega arith)
