use Rattle.desk_commits.proofs.Headline.{entries_make_the_scene_holds}
use Rattle.desk_commits.proofs.laws.entries_make_the_scene.Goals as goal

pub returns : goal.returns
returns c = entries_make_the_scene_holds
