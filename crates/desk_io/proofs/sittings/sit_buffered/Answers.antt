use Rattle.desk_io.proofs.sittings.sit_buffered.Goals as goal
use Rattle.desk_io.proofs.sittings.sit_buffered.Goals.{in-Ok, in-Err}

pub returns-clause-unkept : goal.returns-clause-unkept
returns-clause-unkept g c =
    elim c.match-new.branch [
      | in-Ok w ↦ rw (w.keeper-is, w.counter-is) w.hear_out-ended.ensures.unkept
      | in-Err w ↦ λ failed. absurd (cc (w.keeper-is, c.requires, failed))
    ]
