use Rattle.desk_pictures.proofs.Growth.{grows-more, ok-grows-more}
use Rattle.desk_pictures.proofs.rings.put_ring.Goals as goal

pub returns-in_ok-put_corners-in-Cycle-clause-ok : goal.returns-in_ok-put_corners-in-Cycle-clause-ok
returns-in_ok-put_corners-in-Cycle-clause-ok g c = ok-grows-more _ _ _ _ (grows-more _ _ _ c.in_ok-put_letters-in-Cycle.ensures.ok c.in_ok-put_corners-in-Cycle.ensures.ok) c.put_end.ensures.ok
