use Rattle.desk_pictures.proofs.Growth.{grows-more, ok-grows-more}
use Rattle.desk_pictures.proofs.routes.put_route.Goals as goal

pub returns-clause-ok : goal.returns-clause-ok
returns-clause-ok g c = ok-grows-more _ _ _ _ (grows-more _ _ _ (grows-more _ _ _ (grows-more _ _ _ c.in_ok-put_group.ensures.ok c.in_ok-put_lack.ensures.ok) c.in_ok-put_filled.ensures.ok) c.in_ok-put_strokes.ensures.ok) c.put_filled-2.ensures.ok
