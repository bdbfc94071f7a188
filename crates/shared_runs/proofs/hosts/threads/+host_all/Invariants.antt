use Rattle.std.proofs.Common.{length}
use Rattle.shared_runs.proofs.hosts.threads.+host_all.Given as goal

abbrev pub decreases-host_all : goal.decreases-host_all
decreases-host_all g l = length l.outcomes.now
