use Rattle.std.proofs.Common.{rules}
use Rattle.scene_edits.specs.Board.{scene_of}
use Rattle.scene_edits.proofs.AllowedEdits.{aimed}
use Rattle.scene_edits.proofs.boards.Board.aim.Goals as goal

pub returns-clause-applied : goal.returns-clause-applied
returns-clause-applied c = aimed (scene_of c.args.self.now) c.args.agent c.args.goal _ c.set_goal-old_goal.new.self.rows (search rules) (search rules) c.set_goal-old_goal.ensures.by_agent.0 c.set_goal-old_goal.ensures.by_agent.1 c.set_goal-old_goal.ensures.changed c.set_goal-old_goal.ensures.before
