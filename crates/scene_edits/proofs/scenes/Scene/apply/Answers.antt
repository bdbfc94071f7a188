use Rattle.scene_edits.specs.Board.{scene_of}
use Rattle.scene_edits.proofs.KeptScenes.{applied_keeps}
use Rattle.scene_edits.proofs.scenes.Scene.apply.Goals as goal

pub invariant_of-self : goal.invariant_of-self
invariant_of-self c = applied_keeps (scene_of c.self.inside.board) c.args.edit.now c.apply.result (scene_of c.apply.new.self) c.self.invariant c.apply.ensures.applied
