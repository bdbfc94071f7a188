use Rattle.scene_edits.specs.Board.{scene_of}
use Rattle.scene_edits.proofs.AllowedEdits.{changed}
use Rattle.scene_edits.proofs.boards.Board.replan.Goals as goal

pub returns-clause-edited : goal.returns-clause-edited
returns-clause-edited c = changed (scene_of c.args.self.now) c.args.agent (λ row. record row { plan = c.args.plan }) c.set_plan-old_plan.new.self.rows c.requires.live c.set_plan-old_plan.ensures.by_agent.0 c.set_plan-old_plan.ensures.by_agent.1 c.set_plan-old_plan.ensures.changed
