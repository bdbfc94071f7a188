use Rattle.where_index.proofs.spots.Spots.are_within.Goals as goal

pub returns : goal.returns
returns c = rw (← c.self.view_is) c.self.invariant.1
