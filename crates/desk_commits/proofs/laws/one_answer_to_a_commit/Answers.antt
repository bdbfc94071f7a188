use Rattle.desk_commits.proofs.OneAnswer.{one_answer_to_a_commit_holds}
use Rattle.desk_commits.proofs.laws.one_answer_to_a_commit.Goals as goal

pub returns : goal.returns
returns c = one_answer_to_a_commit_holds
