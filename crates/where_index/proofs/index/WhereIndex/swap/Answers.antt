use Rattle.std.proofs.Common.{◌≡◌, ◌+◌, length, max, arith}
use Rattle.std.proofs.lemmas.Result.{IfOk-weaker}
use Rattle.plan_table.specs.Route.{route_of}
use Rattle.where_index.proofs.Standing.{same_past, same_early}
use Rattle.where_index.proofs.index.WhereIndex.swap.Goals as goal

pub replace-requires-clause-within : goal.replace-requires-clause-within
replace-requires-clause-within c = record {
  range = omega arith;
  end = omega arith;
  same_before = λ t h.
      rw (c.of-before.ensures.is, c.of-after.ensures.is) (same_early (route_of c.args.old) (route_of c.args.new) c.args.since t c.requires (omega arith)
      (omega (arith, c.last.ensures.is, c.last-2.ensures.is)) (omega (arith, c.last.ensures.is, c.last-2.ensures.is)));
  same_after = λ t h.
      rw (c.of-before.ensures.is, c.of-after.ensures.is) (same_past (route_of c.args.old) (route_of c.args.new) (c.max-most.result + 1) t
      (omega (arith, c.last-3.ensures.is, c.of-before.ensures.path.walkable.some_cell)) (omega (arith, c.last-4.ensures.is, c.of-after.ensures.path.walkable.some_cell)) h);
}

pub returns-clause-stands : goal.returns-clause-stands
returns-clause-stands c =
    IfOk-weaker c.replace.result _ _ (λ index stands fleet has was. rw (← c.of-after.ensures.is) (stands _ c.of-before.ensures.is fleet has was)) c.replace.ensures.stands

pub returns-clause-touched : goal.returns-clause-touched
returns-clause-touched c =
    let to : max (length c.args.old.plan.now) (length c.args.new.plan.now) ≡ c.max-most.result + 1 =
    omega (arith, c.last-3.ensures.is, c.last-4.ensures.is, c.of-before.ensures.path.walkable.some_cell, c.of-after.ensures.path.walkable.some_cell) in
    rw to (rw (c.of-before.ensures.is, c.of-after.ensures.is) at c.replace.ensures.touched)
