use Rattle.where_index.proofs.spots.Spots.has.Goals as goal

pub returns : goal.returns
returns c = rw (← c.self.view_is) (rw c.set_at.ensures at c.has.ensures)
