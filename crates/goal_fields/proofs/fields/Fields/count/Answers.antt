use Rattle.goal_fields.specs.Standings.{standings}
use Rattle.goal_fields.proofs.HeldLemmas.{RiseByGoal-kept}
use Rattle.goal_fields.proofs.Reaching.{HaveDistances-kept}
use Rattle.goal_fields.proofs.fields.Fields.count.Goals as goal

pub returns-clause-sound : goal.returns-clause-sound
returns-clause-sound c = rw (← c.self.view_is) c.self.invariant.0.sound

pub returns-clause-one_each : goal.returns-clause-one_each
returns-clause-one_each c = rw (← c.self.view_is) (RiseByGoal-kept c.self.inside.ranks.items (standings c.self.inside.room c.self.inside.fields.items) c.self.invariant.0)

pub returns-clause-distances : goal.returns-clause-distances
returns-clause-distances c = rw (← c.self.view_is) (HaveDistances-kept c.self.inside.room c.self.inside.fields.items c.self.invariant.1)
