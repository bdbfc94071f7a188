use Rattle.commit_log.proofs.Cuts.{cuts}
use Rattle.commit_log.proofs.laws.cuts_leave_whole_entries.Goals as goal

pub returns : goal.returns
returns c = cuts
