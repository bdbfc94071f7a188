use Rattle.change_history.proofs.Apart.{lead_on}
use Rattle.change_history.proofs.laws.moves_lead_on.Goals as goal

pub returns : goal.returns
returns g c = lead_on g.met.T.Ord.total c.told_apart.ensures
