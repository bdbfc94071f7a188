use Rattle.desk_pictures.proofs.Growth.{grows-more, ok-grows-more}
use Rattle.desk_pictures.proofs.ground.put_ground.Goals as goal

pub returns-clause-ok : goal.returns-clause-ok
returns-clause-ok g c = ok-grows-more _ _ _ _ (grows-more _ _ _ (grows-more _ _ _ (grows-more _ _ _ c.in_ok-put_floor.ensures.ok c.in_ok-put_net.ensures.ok) c.in_ok-put_letters.ensures.ok) c.in_ok-put_rows.ensures.ok) c.put_letters-2.ensures.ok
