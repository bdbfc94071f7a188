use Rattle.desk_commits.proofs.OnMap.{paths_on}
use Rattle.desk_core.proofs.questions.report.Goals as goal

pub returns-in-Ok-clause-priced : goal.returns-in-Ok-clause-priced
returns-in-Ok-clause-priced c = c.settle_is_bound_and_gap.ensures c.args.scene.now.grid c.args.scene.now.mode c.args.scene.now.rows c.in-Ok.report (paths_on c.args.scene.now c.plans-plans.ensures.scene) c.in-Ok.ensures.report
