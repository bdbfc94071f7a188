use Rattle.desk_core.proofs.desks.Desk.make_stamps.Goals as goal

pub of-requires-clause-on_map : goal.of-requires-clause-on_map
of-requires-clause-on_map c = rw (c.deref.ensures.value, c.size-size.ensures.is, c.grid.ensures.grid) c.self.invariant.on_map
