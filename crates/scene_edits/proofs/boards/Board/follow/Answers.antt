use Rattle.scene_edits.specs.Board.{scene_of}
use Rattle.scene_edits.proofs.AllowedEdits.{followed}
use Rattle.scene_edits.proofs.boards.Board.follow.Goals as goal

pub returns-in-Ok-clause-follows : goal.returns-in-Ok-clause-follows
returns-in-Ok-clause-follows c = followed (scene_of c.args.self.now) (scene_of c.replan.new.self) c.args.agent c.in-Ok.plan c.args.cells.items c.replan.result c.in-Ok.ensures.walkable c.in-Ok.ensures.path c.replan.ensures.moves c.replan.ensures.edited
