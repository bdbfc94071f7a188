use Rattle.shared_runs.proofs.Sitting.{ended}
use Rattle.shared_runs.proofs.hosts.sittings.sit.Goals as goal

pub returns : goal.returns
returns g c = ended c.args.desk.now _ c.args.pass _ _ _ _ c.new-window.ensures c.into_pass.ensures.owned c.into_pass.ensures.known c.seat-ended.ensures.sat
