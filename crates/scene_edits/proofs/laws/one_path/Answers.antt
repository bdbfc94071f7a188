use Rattle.scene_edits.proofs.PathsOf.{one_path_holds}
use Rattle.scene_edits.proofs.laws.one_path.Goals as goal

pub returns : goal.returns
returns c = one_path_holds
