use Rattle.desk_commits.proofs.LegalJournals.{legal_journals_replay_holds}
use Rattle.desk_commits.proofs.laws.legal_journals_replay.Goals as goal

pub returns : goal.returns
returns c = legal_journals_replay_holds
