use Rattle.mapf_desk.proofs.Planners.{seated}
use Rattle.mapf_desk.proofs.seating.host_at.Goals as goal

pub returns-clause-hosted : goal.returns-clause-hosted
returns-clause-hosted g c = seated _ _ _ _ c.args.desk c.host_seated.result c.in-Ok-new.ensures.version c.in-Ok.ensures c.host_seated.ensures.hosted
