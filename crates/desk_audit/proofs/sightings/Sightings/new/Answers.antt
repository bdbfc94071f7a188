use Rattle.desk_audit.proofs.Paths.{share_is}
use Rattle.desk_audit.proofs.sightings.Sightings.new.Goals as goal

pub returns : goal.returns
returns c = share_is c.args.mode c.args.plans.now.rows c.args.share _ c.in_ok-file_rests.ensures.filed c.in_ok-file_rests.ensures.rests c.first_rest-first_rest.ensures c.in_ok-file_paths.ensures
