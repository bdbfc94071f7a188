use Rattle.std.proofs.Common.{refl}
use Rattle.where_index.proofs.SpotOrder.{found_from, are_from, are_rising}
use Rattle.where_index.proofs.spot_sets.SpotSet.from.Goals as goal

pub returns-clause-all : goal.returns-clause-all
returns-clause-all c =
    let is = found_from c.args.time 0 c.args.self.now _ (rw (c.spot_of.ensures, c.least_cell.ensures, c.self.view_is) at (c.range.ensures.between tt)) in
    are_from c.args.time 0 c.args.self.now _ is refl

pub returns-clause-rising : goal.returns-clause-rising
returns-clause-rising c =
    let is = found_from c.args.time 0 c.self.inside.spots.keys _ (rw (c.spot_of.ensures, c.least_cell.ensures) at (c.range.ensures.between tt)) in
    are_rising c.args.time 0 c.self.inside.spots.keys _ is c.range.ensures.ordered
