use Rattle.goal_fields.proofs.CountLemmas.{distance_none, distance_some}
use Rattle.goal_fields.proofs.distances.distance_by.Goals as goal

pub returns-then-number-clause-inside : goal.returns-then-number-clause-inside
returns-then-number-clause-inside c to rest held = distance_none _ to c.args.g.now rest c.args.cell held c.index.result (rw (← c.size-size.ensures.is) c.index.ensures.is) c.if-number.true

pub returns-else-number-clause-inside : goal.returns-else-number-clause-inside
returns-else-number-clause-inside c to rest held = distance_some _ to c.args.g.now rest c.args.cell held c.index.result (rw (← c.size-size.ensures.is) c.index.ensures.is) c.if-number.false
