use Rattle.scene_edits.proofs.KeptScenes.{edits_keep_scenes_holds}
use Rattle.scene_edits.proofs.laws.edits_keep_scenes.Goals as goal

pub returns : goal.returns
returns c = edits_keep_scenes_holds
