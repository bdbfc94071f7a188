use Rattle.std.proofs.KnownBytes.{Appends-trans}
use Rattle.desk_pictures.specs.Marks.{mark_text}
use Rattle.desk_report.proofs.Fronts.{ok-after}
use Rattle.desk_pictures.proofs.marks.put_mark.Goals as goal

pub returns-clause-ok : goal.returns-clause-ok
unfolding mark_text
returns-clause-ok g c =
    rw (c.symbol_of.ensures, c.spot_of-spot.ensures, c.mode.ensures, c.plans.ensures.rows) at
    (ok-after _ _ _ _ _ _ (Appends-trans _ _ _ _ _ c.in_ok-put_opening.ensures.ok c.in_ok-put_entry.ensures.ok) c.put_all.ensures.ok)
