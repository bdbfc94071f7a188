use Rattle.std.proofs.KnownBytes.{Appends-trans}
use Rattle.desk_pictures.specs.Marks.{marks_text}
use Rattle.desk_report.proofs.Fronts.{ok-after}
use Rattle.desk_pictures.proofs.marks.put_marks.Goals as goal

pub returns-clause-ok : goal.returns-clause-ok
unfolding marks_text
returns-clause-ok g c = ok-after _ _ _ _ _ _ (Appends-trans _ _ _ _ _ c.in_ok-put_all.ensures.ok c.in_ok-put_each_mark.ensures.ok) c.put_all-2.ensures.ok
