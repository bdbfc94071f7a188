use Rattle.desk_commits.proofs.Headline.{runs_are_legal_holds}
use Rattle.desk_commits.proofs.laws.runs_are_legal.Goals as goal

pub returns : goal.returns
returns c = runs_are_legal_holds
