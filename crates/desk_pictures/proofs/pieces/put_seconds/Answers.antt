use Rattle.std.proofs.KnownBytes.{Appends-trans}
use Rattle.desk_report.proofs.Fronts.{ok-after}
use Rattle.desk_pictures.proofs.pieces.put_seconds.Goals as goal

pub returns-clause-ok : goal.returns-clause-ok
returns-clause-ok g c = rw c.from-tenths.ensures at (ok-after _ _ _ _ _ _ (Appends-trans _ _ _ _ _ c.in_ok-put_number.ensures.ok c.in_ok-put_all.ensures.ok) c.put_number-2.ensures.ok)
