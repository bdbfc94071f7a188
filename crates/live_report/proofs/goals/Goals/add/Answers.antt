use Rattle.live_report.proofs.Aiming.{gained}
use Rattle.live_report.proofs.goals.Goals.add.Goals as goal

pub invariant_of-result : goal.invariant_of-result
invariant_of-result c = gained c.args.goal c.args.agent c.self.inside.aims c.add.new.self c.self.inside.fields.fields c.self.invariant c.in_ok-fields.fields.fields c.in_ok-add.ensures c.in_ok-fields.ensures.held c.in_ok-fields.ensures.others

pub returns-clause-aims : goal.returns-clause-aims
returns-clause-aims c = rw (← c.self.view_is) c.in_ok-add.ensures

pub returns-clause-held : goal.returns-clause-held
returns-clause-held c = gained c.args.goal c.args.agent c.self.inside.aims c.add.new.self c.self.inside.fields.fields c.self.invariant c.in_ok-fields.fields.fields c.in_ok-add.ensures c.in_ok-fields.ensures.held c.in_ok-fields.ensures.others
