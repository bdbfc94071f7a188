use Rattle.where_index.proofs.spots.Spots.from.Goals as goal

pub returns-clause-all : goal.returns-clause-all
returns-clause-all c = rw (← c.self.view_is) (rw c.set_at.ensures at c.from.ensures.all)
