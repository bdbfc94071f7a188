use Rattle.std.proofs.KnownBytes.{Appends-trans}
use Rattle.desk_pictures.specs.Marks.{cross_text}
use Rattle.desk_report.proofs.Fronts.{ok-after}
use Rattle.desk_pictures.proofs.crosses.put_cross.Goals as goal

pub returns-clause-ok : goal.returns-clause-ok
unfolding cross_text
returns-clause-ok g c =
    rw (c.x-x.ensures.column, c.y-y.ensures.row, c.is_at.ensures) at
    (ok-after _ _ _ _ _ _ (Appends-trans _ _ _ _ _ c.in_ok-put_cross_opening.ensures.ok c.in_ok-put_visit.ensures.ok) c.put_all.ensures.ok)
