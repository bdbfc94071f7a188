use Rattle.scene_edits.proofs.NamedAgents.{keys-kept}
use Rattle.scene_edits.proofs.taking_back.keep.Goals as goal

pub returns-in-Ok-clause-named : goal.returns-in-Ok-clause-named
returns-in-Ok-clause-named c = rw c.in-Ok.ensures.entries (keys-kept c.args.rows.now.entries c.args.agent (record { goal = c.args.goal; alike = c.args.alike; plan = c.args.plan }))
