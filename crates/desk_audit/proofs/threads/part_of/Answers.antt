use Rattle.desk_audit.proofs.threads.part_of.Goals as goal

pub of-requires-clause-on_map : goal.of-requires-clause-on_map
of-requires-clause-on_map g c agent row live = rw c.grid.ensures.grid (c.plans.ensures.scene.on_map agent row (rw c.plans.ensures.rows at live))
