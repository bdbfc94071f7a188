use Rattle.live_report.proofs.Aiming.{stand_repaired, held_repaired}
use Rattle.live_report.proofs.goals.Goals.repair.Goals as goal

pub invariant_of-self : goal.invariant_of-self
invariant_of-self c = held_repaired c.args.grid.now c.self.inside.fields.fields c.repair-taken.new.self.fields c.repair-taken.ensures.each c.self.inside.aims c.self.invariant

pub returns-clause-stand : goal.returns-clause-stand
returns-clause-stand c = stand_repaired c.args.grid.now c.self.inside.fields.fields c.repair-taken.new.self.fields c.repair-taken.ensures.each

pub returns-clause-held : goal.returns-clause-held
returns-clause-held c = held_repaired c.args.grid.now c.self.inside.fields.fields c.repair-taken.new.self.fields c.repair-taken.ensures.each c.self.inside.aims c.self.invariant

pub returns-then-is_empty-clause-held : goal.returns-then-is_empty-clause-held
returns-then-is_empty-clause-held c = rw (← c.self.view_is) c.self.invariant
