use Rattle.desk_pictures.proofs.Growth.{grows-more, ok-grows-more}
use Rattle.desk_pictures.proofs.ways.put_motion.Goals as goal

pub returns-clause-ok : goal.returns-clause-ok
returns-clause-ok g c = ok-grows-more _ _ _ _ (grows-more _ _ _ (grows-more _ _ _ c.in_ok-put_filled.ensures.ok c.in_ok-put_places.ensures.ok) c.in_ok-put_key_times.ensures.ok) c.put_letters.ensures.ok
