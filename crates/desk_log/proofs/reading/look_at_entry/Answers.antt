use Rattle.desk_log.proofs.Torn.{entry-front}
use Rattle.desk_log.proofs.reading.look_at_entry.Goals as goal

pub returns-in-Ok-Bad : goal.returns-in-Ok-Bad
returns-in-Ok-Bad c e is =
    let bad = rw c.in-Ok-Bad.field-0-is at c.in-Ok-Bad.ensures in
    absurd (bad (entry-front c.args.entry.now e is))
