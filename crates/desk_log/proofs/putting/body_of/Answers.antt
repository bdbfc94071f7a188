use Rattle.desk_log.proofs.Bodies.{body-some}
use Rattle.desk_log.proofs.putting.body_of.Goals as goal

pub returns-clause-body : goal.returns-clause-body
returns-clause-body c = body-some c.written_entry.result c.args.entry.now c.written_entry.ensures.written c.written_entry.ensures.lawful
