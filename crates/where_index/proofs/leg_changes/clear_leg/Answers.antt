use Rattle.std.proofs.Common.{None, ◌∙◌}
use Rattle.where_index.specs.Changes.{set_at}
use Rattle.where_index.proofs.Changes.{set_same}
use Rattle.where_index.proofs.Flowing.{HasTraffic-ext}
use Rattle.where_index.proofs.leg_changes.clear_leg.Goals as goal

pub returns-in-Some-clause-set : goal.returns-in-Some-clause-set
returns-in-Some-clause-set c = λ f has is. c.lose.ensures.set f has (is ∙ c.in-Some.is)

pub returns-in-None-clause-set : goal.returns-in-None-clause-set
returns-in-None-clause-set c = λ f has is. HasTraffic-ext c.args.traffic.now f (set_at f c.args.agent c.args.time None) (set_same f c.args.agent c.args.time None (is ∙ c.in-None.is)) has
