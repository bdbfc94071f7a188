use Rattle.std.proofs.lemmas.Bool.Decides.{not_from_Decides}
use Rattle.live_report.proofs.Aiming.{kept, released, stand_released}
use Rattle.live_report.proofs.goals.Goals.lose.Goals as goal

pub invariant_of-self : goal.invariant_of-self
invariant_of-self c = released c.args.goal c.args.agent c.self.inside.aims c.lose.new.self c.self.inside.fields.fields c.self.invariant c.release.new.self.fields c.lose.ensures (not_from_Decides c.has_goal.result c.has_goal.ensures c.if-not-has_goal.true) c.release.ensures.gone c.release.ensures.others

pub invariant_of-self-else-not-has_goal : goal.invariant_of-self-else-not-has_goal
invariant_of-self-else-not-has_goal c = kept c.args.goal c.args.agent c.self.inside.aims c.lose.new.self c.self.inside.fields.fields c.self.invariant c.lose.ensures (c.has_goal.ensures.0 c.if-not-has_goal.false)

pub returns-then-not-has_goal-clause-aims : goal.returns-then-not-has_goal-clause-aims
returns-then-not-has_goal-clause-aims c = rw (← c.self.view_is) c.lose.ensures

pub returns-then-not-has_goal-clause-stand : goal.returns-then-not-has_goal-clause-stand
returns-then-not-has_goal-clause-stand c = λ grid stand. stand_released grid c.args.goal c.self.inside.fields.fields c.release.new.self.fields c.release.ensures.gone c.release.ensures.others (rw (← c.self.view_is) at stand)

pub returns-then-not-has_goal-clause-held : goal.returns-then-not-has_goal-clause-held
returns-then-not-has_goal-clause-held c = released c.args.goal c.args.agent c.self.inside.aims c.lose.new.self c.self.inside.fields.fields c.self.invariant c.release.new.self.fields c.lose.ensures (not_from_Decides c.has_goal.result c.has_goal.ensures c.if-not-has_goal.true) c.release.ensures.gone c.release.ensures.others

pub returns-else-not-has_goal-clause-aims : goal.returns-else-not-has_goal-clause-aims
returns-else-not-has_goal-clause-aims c = rw (← c.self.view_is) c.lose.ensures

pub returns-else-not-has_goal-clause-held : goal.returns-else-not-has_goal-clause-held
returns-else-not-has_goal-clause-held c = kept c.args.goal c.args.agent c.self.inside.aims c.lose.new.self c.self.inside.fields.fields c.self.invariant c.lose.ensures (c.has_goal.ensures.0 c.if-not-has_goal.false)
