use Rattle.where_index.proofs.FixedFleet.{one_fleet}
use Rattle.where_index.proofs.laws.one_fleet.Goals as goal

pub returns : goal.returns
returns c = one_fleet
