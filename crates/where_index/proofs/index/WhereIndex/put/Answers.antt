use Rattle.std.proofs.Common.{◌+◌, arith}
use Rattle.std.proofs.lemmas.Result.{IfOk-weaker}
use Rattle.plan_table.specs.Route.{route_of}
use Rattle.where_index.specs.Records.{nothing}
use Rattle.where_index.proofs.Standing.{same_past}
use Rattle.where_index.proofs.index.WhereIndex.put.Goals as goal

pub replace-requires-clause-within : goal.replace-requires-clause-within
replace-requires-clause-within c =
    let some_cell = c.of-trail.ensures.path.walkable.some_cell in
    record {
      range = omega arith;
      end = omega arith;
      same_before = λ t h. absurd (omega arith);
      same_after = λ t h. rw (c.none.ensures, c.of-trail.ensures.is) (same_past nothing (route_of c.args.track) (c.last-to.result + 1) t (omega arith) (omega (arith, c.last-to.ensures.is)) h);
    }

pub returns-clause-stands : goal.returns-clause-stands
returns-clause-stands c =
    IfOk-weaker c.replace.result _ _ (λ index stands fleet has was. rw (← c.of-trail.ensures.is) (stands _ c.none.ensures fleet has was)) c.replace.ensures.stands
