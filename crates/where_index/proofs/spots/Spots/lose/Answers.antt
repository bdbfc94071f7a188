use Rattle.where_index.proofs.ByCell.{still_lost, lost_again}
use Rattle.where_index.proofs.spots.Spots.lose.Goals as goal

pub invariant_of-self : goal.invariant_of-self
invariant_of-self c = (c.self.invariant.0, still_lost _ _ c.self.invariant.1 c.args.cell c.args.spot.now (lost_again _ _ _ c.args.cell c.args.spot.now c.lose_in.ensures.loses c.drop_set.ensures))

pub invariant_of-self-else-lose_in : goal.invariant_of-self-else-lose_in
invariant_of-self-else-lose_in c = (c.self.invariant.0, still_lost _ _ c.self.invariant.1 c.args.cell c.args.spot.now c.lose_in.ensures.loses)

pub returns-then-lose_in : goal.returns-then-lose_in
returns-then-lose_in c = rw (← c.self.view_is) (lost_again _ _ _ c.args.cell c.args.spot.now c.lose_in.ensures.loses c.drop_set.ensures)

pub returns-else-lose_in : goal.returns-else-lose_in
returns-else-lose_in c = rw (← c.self.view_is) c.lose_in.ensures.loses
