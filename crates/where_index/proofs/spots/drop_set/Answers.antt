use Rattle.std.proofs.Common.{sym, None}
use Rattle.where_index.proofs.ByCell.{have_same}
use Rattle.where_index.proofs.spots.drop_set.Goals as goal

pub returns : goal.returns
returns c = have_same c.args.sets.now.entries c.remove.new.self.entries c.args.cell None c.remove.ensures.updates.0 (sym c.requires)
