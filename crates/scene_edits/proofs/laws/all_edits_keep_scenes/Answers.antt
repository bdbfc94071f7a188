use Rattle.scene_edits.proofs.Returning.{all_edits_keep_scenes_holds}
use Rattle.scene_edits.proofs.laws.all_edits_keep_scenes.Goals as goal

pub returns : goal.returns
returns c = all_edits_keep_scenes_holds
