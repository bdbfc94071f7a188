use Rattle.plan_table.specs.Route.{route_of}
use Rattle.scene_edits.proofs.SameRoutes.{never_apart}
use Rattle.live_report.proofs.fleet.since_of.Goals as goal

pub returns-clause-one : goal.returns-clause-one
returns-clause-one c = never_apart (route_of c.args.old) (route_of c.args.new) c.last-old.ensures.path c.last-new.ensures.path c.first_difference.result c.first_difference.ensures
