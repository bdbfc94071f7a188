use Rattle.goal_fields.proofs.HeldLemmas.{below_of, above_of}
use Rattle.goal_fields.proofs.fields.place.Goals as goal

pub returns-clause-below : goal.returns-clause-below
returns-clause-below c = below_of c.args.ranks.now c.args.rank c.binary_search.result c.binary_search.ensures.position c.requires

pub returns-clause-above : goal.returns-clause-above
returns-clause-above c = above_of c.args.ranks.now c.args.rank c.binary_search.result c.binary_search.ensures.position c.requires
