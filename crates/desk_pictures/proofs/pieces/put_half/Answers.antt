use Rattle.desk_report.proofs.Fronts.{ok-after}
use Rattle.desk_pictures.proofs.pieces.put_half.Goals as goal

pub returns-clause-ok : goal.returns-clause-ok
returns-clause-ok g c = rw c.half_of.ensures at (ok-after _ _ _ _ _ _ c.in_ok-put_number.ensures.ok c.put_all.ensures.ok)
