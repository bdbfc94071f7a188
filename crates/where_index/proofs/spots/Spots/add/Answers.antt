use Rattle.std.proofs.Common.{arith}
use Rattle.where_index.proofs.ByCell.{still, still_gained}
use Rattle.where_index.proofs.spots.Spots.add.Goals as goal

pub invariant_of-self : goal.invariant_of-self
invariant_of-self c = (c.self.invariant.0, still _ _ c.self.invariant.1 c.in_err-add_in.ensures.refused)

pub invariant_of-self-2 : goal.invariant_of-self-2
invariant_of-self-2 c = (c.self.invariant.0, still_gained _ _ c.self.invariant.1 c.args.cell c.args.spot (omega arith) c.in_ok-add_in.ensures.gains)

pub returns : goal.returns
returns c = rw (← c.self.view_is) c.in_ok-add_in.ensures.gains
