use Rattle.std.proofs.Common.{sym}
use Rattle.scene_edits.specs.Board.{scene_of}
use Rattle.scene_edits.proofs.AllowedEdits.{dropped}
use Rattle.scene_edits.proofs.boards.Board.remove.Goals as goal

pub returns-in-Some-clause-applied : goal.returns-in-Some-clause-applied
returns-in-Some-clause-applied c = dropped (scene_of c.args.self.now) c.args.agent c.in-Some.row c.remove.new.self.rows (sym c.in-Some.ensures.value) c.in-Some.ensures.by_agent.0 c.in-Some.ensures.by_agent.1 c.in-Some.ensures.gone
